use Rattle.std.proofs.Common.{ℕ, ◌+◌, ◌<◌, ◌≤◌, List, length, arith, sym, subst}
use Rattle.std.proofs.lemmas.Option.{MatchOption-at_some}
use Rattle.fws_iv.specs.declared.iv.Iv.{Iv}
use Rattle.fws_place.specs.declared.redirect.Redirect.{Redirect}
use Rattle.fws_place.specs.Gathered.{HasNone, IsGathered, IsNext, IsOfSideBelow, IsOfPort}
use Rattle.fws_place.proofs.Collecting.{gathered_all, gathered_full, gathered_more, gathered_none}
use Rattle.fws_place.proofs.gathering.gather_services.Goals as goal

pub loop-proto-init : goal.loop-proto-init
loop-proto-init c =
    let Of : ℕ → Redirect → Type 0 = λ proto r. IsOfPort c.args.local c.args.ports.now c.args.addr proto r in
    record { low = omega arith; gathered = gathered_none c.args.protos.now 255 Of c.args.met.now.keys }

pub returns-then-len-gt-MOST_REDIRECTS : goal.returns-then-len-gt-MOST_REDIRECTS
returns-then-len-gt-MOST_REDIRECTS c =
    let Of : ℕ → Redirect → Type 0 = λ proto r. IsOfPort c.args.local c.args.ports.now c.args.addr proto r in
    let side : List Iv = c.args.protos.now in
    let from : ℕ = c.loop-proto.from in
    let new : List Redirect = c.gather_ports.new.met.keys in
    let next : IsNext side from 255 c.in-Some.proto = MatchOption-at_some (HasNone side from 255) (IsNext side from 255) c.in-Some.proto c.in-Some.is c.next_value.ensures in
    let many : 4096 < length new = omega (arith, c.len.ensures.len, c.if-len-gt-MOST_REDIRECTS.true) in
    gathered_full side (c.in-Some.proto + 1) 255 Of c.args.met.now.keys new many
    (gathered_more side from 255 c.in-Some.proto Of c.args.met.now.keys c.loop-proto.met.keys new next c.loop-proto.invariant.gathered c.in_ok-gather_ports.ensures)

pub loop-proto-preserved : goal.loop-proto-preserved
loop-proto-preserved c =
    let Of : ℕ → Redirect → Type 0 = λ proto r. IsOfPort c.args.local c.args.ports.now c.args.addr proto r in
    let side : List Iv = c.args.protos.now in
    let from : ℕ = c.loop-proto.from in
    let new : List Redirect = c.gather_ports.new.met.keys in
    let next : IsNext side from 255 c.in-Some.proto = MatchOption-at_some (HasNone side from 255) (IsNext side from 255) c.in-Some.proto c.in-Some.is c.next_value.ensures in
    let low : c.in-Some.proto ≤ 255 = next.within in
    let Below : ℕ → Type 0 = λ k. IsGathered (IsOfSideBelow (k + 1) side 255 Of) c.args.met.now.keys new in
    record {
      low = omega (arith, c.from-from.ensures);
      gathered = subst Below (sym c.from-from.ensures) (gathered_more side from 255 c.in-Some.proto Of c.args.met.now.keys c.loop-proto.met.keys new next c.loop-proto.invariant.gathered c.in_ok-gather_ports.ensures);
    }

pub returns : goal.returns
returns c =
    let Of : ℕ → Redirect → Type 0 = λ proto r. IsOfPort c.args.local c.args.ports.now c.args.addr proto r in
    gathered_all c.args.protos.now c.loop-proto.from 255 Of c.args.met.now.keys c.loop-proto.met.keys c.in_default.ensures c.loop-proto.invariant.gathered
