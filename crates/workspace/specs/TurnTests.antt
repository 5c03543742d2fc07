-- The test of a turn.
use Rattle.std.specs.Prelude.{ℕ, ◌^◌, Bool, true, not, ◌&&◌, ltb, List, [], ◌∷◌, length, is_some, Decides, ◌==◌, nat_le, nat_lt}
use Rattle.std.specs.List.{list_any}
use Rattle.gates.specs.Lines.{width}
use Rattle.gates.specs.Kinds.{KindMeaning}
use Rattle.workspace.specs.Templates.{TemplateMeaning, size}
use Rattle.workspace.specs.TemplateTests.{all_pass}
use Rattle.workspace.specs.Turns.{Turn, IsTurn, directed, placed}

-- the number is in the list
abbrev pub has_number_lem : List ℕ → ℕ → Bool
has_number_lem xs n = list_any (λ x. x == n) xs

-- no number is in the list twice
abbrev pub distinct : List ℕ → Bool
distinct [] = true
distinct (x ∷ xs) = not (has_number_lem xs x) && distinct xs

-- the table takes l lines to different ones of n lines
abbrev pub table_test : ℕ → ℕ → List ℕ → Bool
table_test l n table = nat_le n width && (length table == l && (all_pass (λ x. ltb x n) table && distinct table))

-- t is a turn of the template onto n lines
abbrev pub turn_test : KindMeaning → ℕ → TemplateMeaning → Turn → Bool
turn_test k n e t =
    nat_lt t.rotation (size e)
    && (nat_lt t.flips (2 ^ e.lines)
    && (all_pass (λ x. is_some (k.flipped t.flips x.gate)) (directed k t.back (placed e.gates))
    && table_test e.lines n t.table))

-- the test decides
abbrev pub TurnsDecided : KindMeaning → Type 0
TurnsDecided k = (n : ℕ) (e : TemplateMeaning) (t : Turn) → Decides (turn_test k n e t) (IsTurn k n e t)
