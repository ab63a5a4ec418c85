-- A condition holds of two packets or of neither that differ in nothing that a condition can see.
use Rattle.std.proofs.Common.{◌≡◌, Bool, true, false, ◌&&◌, cond, nat_eq, [], ◌∷◌, refl, ap, ◌∙◌}
use Rattle.std.specs.Prelude.{not}
use Rattle.std.specs.List.{list_any}
use Rattle.std.specs.Int.Bits.{bit_and}
use Rattle.fws_iv.specs.Ivs.{has}
use Rattle.fws_net.specs.declared.condition.Test.{Test}
use Rattle.fws_net.specs.declared.condition.Test.TheVariants.{Src, Dst, Sport, Dport, Proto, Icmp, Flags, AnyFlag, Recv, Xmit, Via, Outward, Est, Tag, Never}
use Rattle.fws_net.specs.declared.condition.Lit.{Lit}
use Rattle.fws_net.specs.declared.view.View.{View}
use Rattle.fws_net.specs.Conditions.{is_shown, test_holds, lit_holds}
use Rattle.fws_net.specs.Fates.{has_ports}
use Rattle.fws_rules.specs.Alike.{AlikeViews, ConditionsHoldAlike}

and_alike : (a b c d : Bool) → a ≡ b → (a ≡ true → c ≡ d) → (a && c) ≡ (b && d)
and_alike true b c d e h = let same : c ≡ d = h refl in cc
and_alike false b c d e h = ap (λ x. x && d) e

test_alike : (v w : View) → AlikeViews v w → (test : Test) → test_holds v test ≡ test_holds w test
test_alike v w a (Src set) = ap (has set) a.packet.src
test_alike v w a (Dst set) = ap (has set) a.packet.dst
test_alike v w a (Sport set) = and_alike (has_ports v.packet.proto) (has_ports w.packet.proto) _ _ (ap has_ports a.packet.proto) (λ on. ap (has set) (a.packet.sport on))
test_alike v w a (Dport set) = and_alike (has_ports v.packet.proto) (has_ports w.packet.proto) _ _ (ap has_ports a.packet.proto) (λ on. ap (has set) (a.packet.dport on))
test_alike v w a (Proto set) = ap (has set) a.packet.proto
test_alike v w a (Icmp set) = and_alike (nat_eq v.packet.proto 1) (nat_eq w.packet.proto 1) _ _ (ap (λ x. nat_eq x 1) a.packet.proto) (λ on. ap (has set) (a.packet.icmp on))
test_alike v w a (Flags mask want) =
    and_alike (nat_eq v.packet.proto 6) (nat_eq w.packet.proto 6) _ _ (ap (λ x. nat_eq x 6) a.packet.proto)
    (λ on. ap (λ x. nat_eq (bit_and x mask) want) (a.packet.flags on))
test_alike v w a (AnyFlag mask) =
    and_alike (nat_eq v.packet.proto 6) (nat_eq w.packet.proto 6) _ _ (ap (λ x. nat_eq x 6) a.packet.proto)
    (λ on. ap (λ x. not (nat_eq (bit_and x mask) 0)) (a.packet.flags on))
test_alike v w a (Recv set) = ap (λ x. is_shown x set) a.recv
test_alike v w a (Xmit set) = ap (λ x. is_shown x set) a.xmit
test_alike v w a (Via set) =
    ap (λ x. is_shown (cond x v.xmit v.recv) set) a.outward ∙ ap (λ x. is_shown (cond w.outward x v.recv) set) a.xmit
    ∙ ap (λ x. is_shown (cond w.outward w.xmit x) set) a.recv
test_alike v w a Outward = a.outward
test_alike v w a Est = a.est
test_alike v w a (Tag n) = ap (list_any (nat_eq n)) a.tags
test_alike v w a Never = refl

lit_alike : (v w : View) → AlikeViews v w → (lit : Lit) → lit_holds v lit ≡ lit_holds w lit
lit_alike v w a lit = ap (λ b. cond lit.not (not b) b) (test_alike v w a lit.test)

pub conditions_hold_alike : ConditionsHoldAlike
conditions_hold_alike v w a [] = refl
conditions_hold_alike v w a (lit ∷ lits) =
    and_alike (lit_holds v lit) (lit_holds w lit) _ _ (lit_alike v w a lit) (λ on. conditions_hold_alike v w a lits)
