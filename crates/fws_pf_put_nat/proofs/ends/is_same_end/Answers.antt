use Rattle.std.proofs.Common.{◌≡◌, ℕ, Bool, true, ◌&&◌, nat_eq, Option, Some, None, refl, sym, ◌∙◌, subst}
use Rattle.std.proofs.lemmas.Bool.{and_from, eq-eqb}
use Rattle.std.specs.Option.{option_eq}
use Rattle.fws_net.specs.declared.outcome.End.{End}
use Rattle.fws_tree.specs.LeafEquality.{option_exact}
use Rattle.fws_tree.specs.OutcomeEquality.{end_exact}
use Rattle.fws_pf_put_nat.proofs.ends.is_same_end.Goals as goal

abbrev same : End → End → Bool
same x y = nat_eq x.addr y.addr && (nat_eq x.len y.len && option_eq nat_eq x.port y.port)

number_self : (o : Option ℕ) → option_eq nat_eq o o ≡ true
number_self None = refl
number_self (Some n) = eq-eqb n n refl

self : (o : Option End) → option_eq same o o ≡ true
self None = refl
self (Some x) = and_from (nat_eq x.addr x.addr) (nat_eq x.len x.len && option_eq nat_eq x.port x.port) (eq-eqb x.addr x.addr refl)
    (and_from (nat_eq x.len x.len) (option_eq nat_eq x.port x.port) (eq-eqb x.len x.len refl) (number_self x.port))

pub returns : goal.returns
returns c = (
  λ h. option_exact same end_exact c.args.a c.args.b (sym c.eq.ensures ∙ h),
  λ e. c.eq.ensures ∙ subst (λ o. option_eq same c.args.a o ≡ true) e (self c.args.a),
)
