use Rattle.std.proofs.Common.{◌≡◌, ℕ, true, false, MatchOption, List, [], ◌<◌, length, sym, subst, arith}
use Rattle.std.proofs.lemmas.List.{get_or_default}
use Rattle.std.specs.Prelude.{slice_index_or}
use Rattle.fws_iv.specs.declared.iv.Iv.{Iv}
use Rattle.fws_iv.specs.Ivs.{has}
use Rattle.fws_net.specs.Fates.{has_ports}
use Rattle.fws_dead.proofs.Writing.{ported_point, unported_alike}
use Rattle.fws_dead.proofs.row.ports_apart.Goals as goal

pub returns-in-Some : goal.returns-in-Some
returns-in-Some c tops row within h =
    let sides = c.args.sides.now in
    let lt : 1 < length sides = omega arith in
    let read : List Iv = slice_index_or sides 1 c.index-sides-1.result in
    let side = get_or_default sides 1 c.index-sides-1.result [] lt in
    let found = subst (λ o. MatchOption o ((x : ℕ) → has read x ≡ true → has_ports x ≡ false) (λ x. (has read x ≡ true) × (has_ports x ≡ true)))
    c.in-Some.is c.proto_with_ports-found.ensures in
    let p = ported_point tops sides c.args.point.now c.point_with-ported.result c.in-Some.proto row within h (subst (λ s. has s c.in-Some.proto ≡ true) side found.0) found.1 c.point_with-ported.ensures in
    c.port_apart.ensures tops row p.0 p.1 p.2

pub returns-in-None : goal.returns-in-None
returns-in-None c tops row within h =
    let sides = c.args.sides.now in
    let lt : 1 < length sides = omega arith in
    let read : List Iv = slice_index_or sides 1 c.index-sides-1.result in
    let side = get_or_default sides 1 c.index-sides-1.result [] lt in
    let none = subst (λ o. MatchOption o ((x : ℕ) → has read x ≡ true → has_ports x ≡ false) (λ x. (has read x ≡ true) × (has_ports x ≡ true)))
    c.in-None.is c.proto_with_ports-found.ensures in
    unported_alike tops sides c.args.first c.args.second row (λ x k. none x (subst (λ s. has s x ≡ true) (sym side) k))
