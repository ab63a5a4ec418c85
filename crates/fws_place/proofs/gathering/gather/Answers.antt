use Rattle.std.proofs.Common.{ℕ, ◌+◌, ◌<◌, ◌≤◌, List, length, arith, sym, subst}
use Rattle.std.proofs.lemmas.Option.{MatchOption-at_some}
use Rattle.fws_iv.specs.declared.iv.Iv.{Iv}
use Rattle.fws_place.specs.declared.redirect.Redirect.{Redirect}
use Rattle.fws_place.specs.Gathered.{HasNone, IsGathered, IsNext, IsOfSideBelow, IsOfAddress}
use Rattle.fws_place.proofs.Collecting.{gathered_all, gathered_full, gathered_more, gathered_none}
use Rattle.fws_place.proofs.gathering.gather.Goals as goal

pub loop-addr-init : goal.loop-addr-init
loop-addr-init c =
    let Of : ℕ → Redirect → Type 0 = λ addr r. IsOfAddress c.args.local.port c.args.local c.args.protos.now c.args.ports.now addr r in
    record { low = omega arith; gathered = gathered_none c.args.addrs.now 4294967295 Of c.args.met.now.keys }

pub returns-then-len-gt-MOST_REDIRECTS : goal.returns-then-len-gt-MOST_REDIRECTS
returns-then-len-gt-MOST_REDIRECTS c =
    let Of : ℕ → Redirect → Type 0 = λ addr r. IsOfAddress c.args.local.port c.args.local c.args.protos.now c.args.ports.now addr r in
    let side : List Iv = c.args.addrs.now in
    let from : ℕ = c.loop-addr.from in
    let new : List Redirect = c.gather_address.new.met.keys in
    let next : IsNext side from 4294967295 c.in-Some.addr = MatchOption-at_some (HasNone side from 4294967295) (IsNext side from 4294967295) c.in-Some.addr c.in-Some.is c.next_value.ensures in
    let many : 4096 < length new = omega (arith, c.len.ensures.len, c.if-len-gt-MOST_REDIRECTS.true) in
    gathered_full side (c.in-Some.addr + 1) 4294967295 Of c.args.met.now.keys new many
    (gathered_more side from 4294967295 c.in-Some.addr Of c.args.met.now.keys c.loop-addr.met.keys new next c.loop-addr.invariant.gathered c.in_ok-gather_address.ensures)

pub loop-addr-preserved : goal.loop-addr-preserved
loop-addr-preserved c =
    let Of : ℕ → Redirect → Type 0 = λ addr r. IsOfAddress c.args.local.port c.args.local c.args.protos.now c.args.ports.now addr r in
    let side : List Iv = c.args.addrs.now in
    let from : ℕ = c.loop-addr.from in
    let new : List Redirect = c.gather_address.new.met.keys in
    let next : IsNext side from 4294967295 c.in-Some.addr = MatchOption-at_some (HasNone side from 4294967295) (IsNext side from 4294967295) c.in-Some.addr c.in-Some.is c.next_value.ensures in
    let low : c.in-Some.addr ≤ 4294967295 = next.within in
    let Below : ℕ → Type 0 = λ k. IsGathered (IsOfSideBelow (k + 1) side 4294967295 Of) c.args.met.now.keys new in
    record {
      low = omega (arith, c.from-from.ensures);
      gathered = subst Below (sym c.from-from.ensures) (gathered_more side from 4294967295 c.in-Some.addr Of c.args.met.now.keys c.loop-addr.met.keys new next c.loop-addr.invariant.gathered c.in_ok-gather_address.ensures);
    }

pub returns : goal.returns
returns c =
    let Of : ℕ → Redirect → Type 0 = λ addr r. IsOfAddress c.args.local.port c.args.local c.args.protos.now c.args.ports.now addr r in
    gathered_all c.args.addrs.now c.loop-addr.from 4294967295 Of c.args.met.now.keys c.loop-addr.met.keys c.in_default.ensures c.loop-addr.invariant.gathered
