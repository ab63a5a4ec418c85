use Rattle.std.proofs.Common.{◌≡◌, ℕ, ◌+◌, ◌<◌, ◌≤◌, List, length, arith, sym, subst}
use Rattle.std.proofs.lemmas.Option.{MatchOption-at_some}
use Rattle.fws_iv.specs.declared.iv.Iv.{Iv}
use Rattle.fws_place.specs.declared.redirect.Redirect.{Redirect}
use Rattle.fws_place.specs.Gathered.{HasNone, IsGathered, IsNext, IsOfSideBelow, served_redirect}
use Rattle.fws_place.proofs.Collecting.{gathered_all, gathered_full, gathered_more, gathered_none, put_gathered}
use Rattle.fws_place.proofs.gathering.gather_ports.Goals as goal

pub loop-port-init : goal.loop-port-init
loop-port-init c =
    let Of : ℕ → Redirect → Type 0 = λ port r. r ≡ served_redirect c.args.local c.args.addr c.args.proto port in
    record { low = omega arith; gathered = gathered_none c.args.ports.now 65535 Of c.args.met.now.keys }

pub returns-then-len-gt-MOST_REDIRECTS : goal.returns-then-len-gt-MOST_REDIRECTS
returns-then-len-gt-MOST_REDIRECTS c =
    let Of : ℕ → Redirect → Type 0 = λ port r. r ≡ served_redirect c.args.local c.args.addr c.args.proto port in
    let side : List Iv = c.args.ports.now in
    let from : ℕ = c.loop-port.from in
    let new : List Redirect = c.put_new.new.kept.keys in
    let next : IsNext side from 65535 c.in-Some.port = MatchOption-at_some (HasNone side from 65535) (IsNext side from 65535) c.in-Some.port c.in-Some.is c.next_value.ensures in
    let many : 4096 < length new = omega (arith, c.len.ensures.len, c.if-len-gt-MOST_REDIRECTS.true) in
    gathered_full side (c.in-Some.port + 1) 65535 Of c.args.met.now.keys new many
    (gathered_more side from 65535 c.in-Some.port Of c.args.met.now.keys c.loop-port.met.keys new next c.loop-port.invariant.gathered (put_gathered c.loop-port.met.keys c.put_new.new.kept.keys (served_redirect c.args.local c.args.addr c.args.proto c.in-Some.port) c.in_ok-put_new.ensures))

pub loop-port-preserved : goal.loop-port-preserved
loop-port-preserved c =
    let Of : ℕ → Redirect → Type 0 = λ port r. r ≡ served_redirect c.args.local c.args.addr c.args.proto port in
    let side : List Iv = c.args.ports.now in
    let from : ℕ = c.loop-port.from in
    let new : List Redirect = c.put_new.new.kept.keys in
    let next : IsNext side from 65535 c.in-Some.port = MatchOption-at_some (HasNone side from 65535) (IsNext side from 65535) c.in-Some.port c.in-Some.is c.next_value.ensures in
    let low : c.in-Some.port ≤ 65535 = next.within in
    let Below : ℕ → Type 0 = λ k. IsGathered (IsOfSideBelow (k + 1) side 65535 Of) c.args.met.now.keys new in
    record {
      low = omega (arith, c.from-from.ensures);
      gathered = subst Below (sym c.from-from.ensures) (gathered_more side from 65535 c.in-Some.port Of c.args.met.now.keys c.loop-port.met.keys new next c.loop-port.invariant.gathered (put_gathered c.loop-port.met.keys c.put_new.new.kept.keys (served_redirect c.args.local c.args.addr c.args.proto c.in-Some.port) c.in_ok-put_new.ensures));
    }

pub returns : goal.returns
returns c =
    let Of : ℕ → Redirect → Type 0 = λ port r. r ≡ served_redirect c.args.local c.args.addr c.args.proto port in
    gathered_all c.args.ports.now c.loop-port.from 65535 Of c.args.met.now.keys c.loop-port.met.keys c.in_default.ensures c.loop-port.invariant.gathered
