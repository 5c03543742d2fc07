-- Lists made item by item from others.
use Rattle.std.proofs.Common.{◌≡◌, List, map, sym, ◌∙◌}
use Rattle.std.specs.List.{AllZip}
use Rattle.std.proofs.lemmas.List.{map-id}
use Rattle.workspace.proofs.Images.{zip_kept}

-- a list turned item by item
pub turned : {A B : Type 0} (R : A → B → Type 0) (f : A → B) → ((x : A) (y : B) → R x y → y ≡ f x) → (xs : List A) (ys : List B) → AllZip R xs ys → ys ≡ map f xs
turned R f each xs ys all = sym (map-id ys) ∙ zip_kept R f (λ y. y) each xs ys all
