use Rattle.std.proofs.Common.{◌≡◌, cond, Some, ap, sym, ◌∙◌, subst}
use Rattle.std.specs.HashMap.{get}
use Rattle.fws_trace.specs.declared.classes.Key.{Key}
use Rattle.fws_trace.specs.Classes.{key_of, key_eq}
use Rattle.fws_trace.proofs.Keys.{settled_ends}
use Rattle.fws_trace.proofs.classes.Classes.replace.Goals as goal

pub returns-in-Ok : goal.returns-in-Ok
returns-in-Ok c t k same = settled_ends (get key_eq c.args.self.now.ends) (get key_eq c.insert.new.self) k t c.args.ends c.in-Some.field-0
    (ap (get key_eq c.args.self.now.ends) (sym same) ∙ sym c.in-Some.ensures)
    (subst (λ (key : Key). get key_eq c.insert.new.self (key_of t) ≡ cond (key_eq key (key_of t)) (Some c.args.ends) (get key_eq c.args.self.now.ends (key_of t)))
    same (c.in-Ok.ensures.updates.0 (key_of t)))
