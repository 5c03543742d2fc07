-- Lists in arrays: what collecting leaves.
use Rattle.std.proofs.Common.{◌≡◌, ℕ, List, Option, take, map-id, sym, ap, ◌∙◌}
use Rattle.std.proofs.iter.Yields.{gives_Drains}
use Rattle.std.proofs.lemmas.Iterator.{YieldsList}
use Rattle.fixed_list.specs.Lists.{Collected}

-- where it is known what the iterator gives, the items are the first of that
pub collected_is : {S T : Type 0} {steps : S → Option T → S → Type 0} {s : S} {most : ℕ} {items all : List T} → Collected steps s most items → YieldsList steps (λ x. x) s all → items ≡ take most all
collected_is {steps = steps} {s = s} {most = most} {all = all} c road = c.first ∙ ap (take most) (sym (map-id c.given) ∙ gives_Drains steps (λ x. x) c.given all s road.runs c.all)
