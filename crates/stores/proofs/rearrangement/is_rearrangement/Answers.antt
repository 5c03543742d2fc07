use Rattle.std.proofs.Common.{◌+◌, Bool, not, ◌&&◌, eqb, ltb, length, get_or, drop, sym, ap, ◌∙◌}
use Rattle.std.proofs.lemmas.Bool.{eq-eqb, le-leb, lt-ltb, le-ltb, and_from, and_left, and_right, not_from_true, not_from_false}
use Rattle.gates.specs.Lines.{width, bit}
use Rattle.stores.specs.Mounts.{completes}
use Rattle.stores.proofs.Rearranging.{all_listed, completes_stops, completes_goes_on, completes_ends, no_rearrangement}
use Rattle.stores.proofs.rearrangement.is_rearrangement.Goals as goal
use Rattle.stores.proofs.rearrangement.is_rearrangement.Goals.{then-line-lines-via-then-line-lines, then-line-lines-via-else-line-lines+then-has_line}

pub returns-then-line-lines : goal.returns-then-line-lines
returns-then-line-lines c =
    let t = c.args.table.now in
    let n = c.args.lines in
    let i = c.loop-line.line-index in
    let seen = c.loop-line.seen in
    let x = get_or t i 0 in
    sym (no_rearrangement n t (sym c.loop-line.invariant ∙ completes_stops n seen t i c.loop-line-test.true
    (elim c.then-line-lines.branch [
      | then-line-lines-via-then-line-lines w ↦ and_left (ltb x n) (not (bit seen x)) (le-ltb x n w.if-line-lines.true)
      | then-line-lines-via-else-line-lines+then-has_line w ↦ and_right (ltb x n) (not (bit seen x)) (not_from_true (bit seen x) (sym w.if-has_line.ensures))
    ])))

pub loop-line-preserved : goal.loop-line-preserved
loop-line-preserved c =
    let t = c.args.table.now in
    let n = c.args.lines in
    let i = c.loop-line.line-index in
    let seen = c.loop-line.seen in
    let x = get_or t i 0 in
    let good = and_from (ltb x n) (not (bit seen x)) (lt-ltb x n c.if-line-lines.false) (not_from_false (bit seen x) (sym c.if-has_line.ensures)) in
    ap (λ s. completes n s (drop (i + 1) t)) c.with_line-seen.ensures ∙ sym (completes_goes_on n seen t i c.loop-line-test.true good) ∙ c.loop-line.invariant

pub returns : goal.returns
returns c =
    let t = c.args.table.now in
    let n = c.args.lines in
    c.has_all_lines.ensures ∙ all_listed n (bit c.loop-line.seen) ∙ sym (completes_ends n c.loop-line.seen t c.loop-line.line-index c.loop-line-test.false) ∙ c.loop-line.invariant
    ∙ sym (ap (λ (b : Bool). b && (eqb (length t) n && completes n 0 t)) (le-leb n width c.if-lines-gt-WIDTH.false)
    ∙ ap (λ (b : Bool). b && completes n 0 t) (eq-eqb (length t) n (c.if-table-from.false ∙ c.from.ensures)))
