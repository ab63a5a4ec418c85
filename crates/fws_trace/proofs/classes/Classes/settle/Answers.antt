use Rattle.std.proofs.Common.{◌≡◌, cond, None, ap, sym, ◌∙◌, subst}
use Rattle.std.specs.HashMap.{get}
use Rattle.fws_net.specs.declared.connection.Kind.{Kind}
use Rattle.fws_net.specs.Connections.{matches}
use Rattle.fws_trace.specs.declared.classes.Key.{Key}
use Rattle.fws_trace.specs.Classes.{key_of, key_eq, class_in, settled}
use Rattle.fws_trace.proofs.Keys.{settled_new}
use Rattle.fws_trace.proofs.classes.Classes.settle.Goals as goal

pub returns-in-New : goal.returns-in-New
returns-in-New c t =
    settled_new (get key_eq c.args.self.now.ends) (get key_eq c.remove.new.self) c.args.tuple.now t
    (subst (λ (k : Key). get key_eq c.remove.new.self (key_of t) ≡ cond (key_eq k (key_of t)) None (get key_eq c.args.self.now.ends (key_of t)))
    c.of-key.ensures (c.remove.ensures.updates.0 (key_of t)))
    ∙ ap (λ (k : Kind). settled (matches c.args.tuple.now t) k (class_in c.args.self.now t)) (sym c.in-New.is)

pub returns-in-Est : goal.returns-in-Est
returns-in-Est c t = c.replace.ensures t c.args.tuple.now c.of-key.ensures
    ∙ ap (λ (k : Kind). settled (matches c.args.tuple.now t) k (class_in c.args.self.now t)) (sym c.in-Est.is)
