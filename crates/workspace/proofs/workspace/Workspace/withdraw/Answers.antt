use Rattle.std.proofs.Common.{◌≡◌, Some, None, Err, Result, ap, sym, subst, ◌∙◌, rules}
use Rattle.std.specs.Option.{option_map}
use Rattle.workspace.specs.declared.refusal.TemplateRefusal.{TemplateRefusal}
use Rattle.workspace.specs.declared.refusal.TemplateRefusal.TheVariants.{NoSuchEntry}
use Rattle.workspace.specs.Conditions.{withdraw_outcome}
use Rattle.workspace.specs.Holdings.{condition_of}
use Rattle.workspace.specs.Promises.{Performed}
use Rattle.workspace.specs.Shelves.{entries_of, entry_of}
use Rattle.workspace.proofs.Calling.{withdrawn}
use Rattle.workspace.proofs.workspace.Workspace.withdraw.Goals as goal

pub returns-in_err-ok_or-clause-promised : goal.returns-in_err-ok_or-clause-promised
returns-in_err-ok_or-clause-promised g c =
    let h = c.args.self.now.holdings in
    let none : c.remove.result ≡ None = c.in_err-ok_or.ensures.ok_part in
    let refused : c.from_residual.result ≡ Err NoSuchEntry = search rules in
    subst (λ (r : Result (Unit {0}) TemplateRefusal). Performed g.S.Kind.GateKind.means (condition_of g.S.Store.means h) (withdraw_outcome (condition_of g.S.Store.means h) c.args.number) r (condition_of g.S.Store.means record { store = h.store; shelf = c.remove.new.self })) (sym refused)
    (withdrawn g.S.Kind.GateKind.means (g.S.Store.means h.store) (entries_of h.shelf) c.args.number None (entries_of c.remove.new.self) (ap (option_map entry_of) (sym none) ∙ c.remove.ensures.answers) c.remove.ensures.leaves)

pub returns-clause-promised : goal.returns-clause-promised
returns-clause-promised g c =
    let h = c.args.self.now.holdings in
    let some : c.remove.result ≡ Some c.in_ok-ok_or.field-0 = c.in_ok-ok_or.ensures.ok_part in
    withdrawn g.S.Kind.GateKind.means (g.S.Store.means h.store) (entries_of h.shelf) c.args.number (Some (entry_of c.in_ok-ok_or.field-0)) (entries_of c.remove.new.self) (ap (option_map entry_of) (sym some) ∙ c.remove.ensures.answers) c.remove.ensures.leaves
