use Rattle.std.proofs.Common.{◌≡◌, ℕ, ◌+◌, ◌^◌, true, false, inl, inr, ◌<◌, List, ◌∷◌, length, get_or, drop, take, sym, ap, ◌∙◌, arith}
use Rattle.std.proofs.lemmas.List.{drop_more, length-drop, take_all}
use Rattle.gates.specs.Lines.{width, bit}
use Rattle.gates.specs.Controls.{renamed_set}
use Rattle.gates.proofs.Masks.{renamed_none, renamed_more, renamed_skip, renamed_whole}
use Rattle.gates.proofs.sets.rename.Goals as goal

-- what is left of a table begins with its entry at i
record Next (table rest : List ℕ) (i new : ℕ) : Type 0 where
  within : i < length table
  entry : get_or table i 0 ≡ new
  left : rest ≡ drop (i + 1) table

next_of : (table rest : List ℕ) (i new : ℕ) → drop i table ≡ new ∷ rest → Next table rest i new
next_of table rest i new e =
    let lt : i < length table = omega (arith, length-drop i table, ap length e) in
    let whole = sym (drop_more table i 0 lt) ∙ e in
    record { within = lt; entry = cc; left = cc }

pub loop-line-init : goal.loop-line-init
loop-line-init c =
    let here : c.into_iter-line-iterator.result.a.start ≡ 0 = cc in
    record {
      so_far = renamed_none c.args.set ∙ ap (λ (i : ℕ). renamed_set (take i c.args.table.now) c.args.set) (sym here);
      within = omega (arith, here);
      end = cc;
      rest = let whole = c.zip-line-items.ensures.second.0 in rw here (cc);
    }

pub loop-line-preserved-then-has_line : goal.loop-line-preserved-then-has_line
loop-line-preserved-then-has_line c =
    let steps = c.in-Some.ensures.steps in
    let inv = c.loop-line.invariant in
    let i = c.loop-line.line-iterator.a.start in
    let t = c.args.table.now in
    let next = next_of t c.next.new.self.b.rest.now i c.in-Some.new.now (sym inv.rest ∙ steps.1) in
    let in_set : bit c.args.set i ≡ true = cc in
    let more = renamed_more t c.args.set i next.within in_set in
    record {
      so_far = c.with_line-renamed.ensures ∙ cc;
      within = omega arith;
      end = cc;
      rest = next.left ∙ ap (λ (n : ℕ). drop n t) (let z : i + 1 ≡ c.next.new.self.a.start = cc in z);
    }

pub loop-line-preserved : goal.loop-line-preserved
loop-line-preserved c =
    let steps = c.in-Some.ensures.steps in
    let inv = c.loop-line.invariant in
    let i = c.loop-line.line-iterator.a.start in
    let t = c.args.table.now in
    let next = next_of t c.next.new.self.b.rest.now i c.in-Some.new.now (sym inv.rest ∙ steps.1) in
    let out_of_set : bit c.args.set i ≡ false = cc in
    let same = renamed_skip t c.args.set i next.within out_of_set in
    record {
      so_far = cc;
      within = omega arith;
      end = cc;
      rest = next.left ∙ ap (λ (n : ℕ). drop n t) (let z : i + 1 ≡ c.next.new.self.a.start = cc in z);
    }

pub returns : goal.returns
returns c =
    let inv = c.loop-line.invariant in
    let i = c.loop-line.line-iterator.a.start in
    let t = c.args.table.now in
    elim c.in-None.ensures.steps [
      | inl h ↦
          let small : c.args.set < 2 ^ width = omega arith in
          let last : i ≡ width = omega (arith, h.1.1.0) in
          inv.so_far ∙ ap (λ (n : ℕ). renamed_set (take n t) c.args.set) last ∙ renamed_whole t c.args.set small
      | inr h ↦ inv.so_far ∙ ap (λ (u : List ℕ). renamed_set u c.args.set) (take_all i t (omega (arith, length-drop i t, ap length inv.rest, h.1.0)))
    ]
