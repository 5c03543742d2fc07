-- Lists in arrays: what is in them, and what calls leave.
use Rattle.std.specs.Prelude.{◌≡◌, ℕ, cond, slice_index_or, slice_set, List, [], ◌∷◌, ◌++◌, length, take, Option, Ok, Err, Result, nat_lt}
use Rattle.std.specs.Iterator.{Drains}
use Rattle.std.specs.List.{remove}
use Rattle.std.specs.Fn.{FnOnceReturnsAtMut}
use denote.Param.Members.{Once}
use denote.Ref.{MutBor}
use Rattle.fixed_list.specs.declared.fixed_list.FixedList.{FixedList}
use Rattle.fixed_list.specs.declared.calls.Full.{Full}

-- the items of the list, in order
abbrev pub contents : {T : Type 0} {most : ℕ} → FixedList T most → List T
contents list = take list.count list.items

-- the list with one item more behind, where there is room for it among so many
abbrev pub pushed : {T : Type 0} → ℕ → List T → T → List T
pushed most items item = cond (nat_lt (length items) most) (items ++ item ∷ []) items

-- whether there is room
abbrev pub push_outcome : {T : Type 0} → ℕ → List T → Result (Unit {0}) Full
push_outcome most items = cond (nat_lt (length items) most) (Ok tt) (Err record {})

-- the items are the first that an iterator gives, all of them where it gives no more than there is room for
pub record Collected {S T : Type 0} (steps : S → Option T → S → Type 0) (iterator : S) (most : ℕ) (items : List T) : Type 0 where
  pub given : List T
  pub all : Drains steps iterator given
  pub first : items ≡ take most given

-- the list without the item at a place, where there is one
abbrev pub removed : {T : Type 0} → List T → ℕ → List T
removed items place = cond (nat_lt place (length items)) (remove items place) items

-- the list with the item at a place as the closure may leave it
pub record Changed {F T : Type 0} (g : Once F (MutBor T × Unit {0}) (Unit {0} × (MutBor T × Unit {0}))) (change : F) (items : List T) (place : ℕ) (items' : List T) : Type 0 where
  pub item : T
  pub item' : T
  pub was : slice_index_or items place item ≡ item
  pub turned : FnOnceReturnsAtMut g change item tt item'
  pub is : items' ≡ slice_set items place item'
