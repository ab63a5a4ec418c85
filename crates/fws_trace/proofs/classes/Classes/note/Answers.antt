use Rattle.std.proofs.Common.{◌≡◌, cond, Some, ap, sym, ◌∙◌, subst}
use Rattle.std.specs.HashMap.{get}
use Rattle.fws_trace.specs.declared.classes.Key.{Key}
use Rattle.fws_trace.specs.Classes.{key_of, key_eq}
use Rattle.fws_trace.proofs.Keys.{noted}
use Rattle.fws_trace.proofs.classes.Classes.note.Goals as goal

pub returns-in_ok-insert-in-None-clause-noted : goal.returns-in_ok-insert-in-None-clause-noted
returns-in_ok-insert-in-None-clause-noted c t = noted (get key_eq c.args.self.now.ends) (get key_eq c.insert.new.self) c.args.tuple.now t c.args.ends
    (ap (get key_eq c.args.self.now.ends) (sym c.of-key.ensures) ∙ sym c.in-None.ensures)
    (subst (λ (k : Key). get key_eq c.insert.new.self (key_of t) ≡ cond (key_eq k (key_of t)) (Some c.args.ends) (get key_eq c.args.self.now.ends (key_of t)))
    c.of-key.ensures (c.in_ok-insert-in-None.ensures.updates.0 (key_of t)))
