-- The laws of cascades, for every kind.
use Rattle.gates.specs.Kinds.{KindMeaning, KindLaws}
use Rattle.gates.specs.Cascades.{CascadeLaws}
use Rattle.gates.proofs.Runs as runs
use Rattle.gates.proofs.Moving as moves

pub cascade_laws_lem : (k : KindMeaning) → KindLaws k → CascadeLaws k
cascade_laws_lem k laws = record {
  in_a_row = runs.run_append k;
  backward_undoes = runs.backward_undoes laws;
  backward_undone = runs.backward_undone laws;
  backward_formed = runs.backward_formed laws;
  backward_twice = runs.backward_twice laws;
  backward_restores = runs.backward_restores laws;
  rotated_restores = runs.rotated_restores laws;
  flipped_restores = runs.flipped_restores laws;
  renamed_restores = λ l n t gates table. runs.renamed_restores laws l n t table gates;
  split = runs.split laws;
  flipped_runs = runs.flipped_runs laws;
  renamed_runs = λ l n t gates table. runs.renamed_runs laws l n t table gates;
  renamed_leaves = λ l n t gates table. runs.renamed_leaves laws l n t table gates;
  exchanging = moves.exchanging laws;
  moving = moves.moving laws;
  idle_line = runs.run_idle k;
  local = runs.run_upto laws;
  few_states = runs.few_states laws;
}
