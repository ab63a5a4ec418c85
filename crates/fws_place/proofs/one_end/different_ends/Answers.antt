use Rattle.std.proofs.Common.{ℕ, None, Some, List, sym, subst}
use Rattle.std.proofs.lemmas.Option.{MatchOption-at_none, MatchOption-at_some}
use Rattle.fws_net.specs.declared.outcome.Outcome.TheVariants.{Drop}
use Rattle.fws_net.specs.declared.packet.Packet.{Packet}
use Rattle.fws_net.specs.Points.{tops_of, packet_of}
use Rattle.fws_place.specs.Apart.{flags_and_icmp, AreAlikeBy, AreApart}
use Rattle.fws_place.specs.Clauses.{NamesPackets}
use Rattle.fws_place.specs.OneEnd.{GetDifferentEnds}
use Rattle.fws_place.proofs.OneEnds.{ends_named, no_ends_named}
use Rattle.fws_place.proofs.PairPoints.{roomy}
use Rattle.fws_place.proofs.one_end.different_ends.Goals as goal

pub returns-in-None : goal.returns-in-None
returns-in-None c =
    let t = c.in_ok-tree.tree in
    let none : AreAlikeBy (λ x. x) flags_and_icmp t.0 t.1 Drop
    = MatchOption-at_none (AreAlikeBy (λ x. x) flags_and_icmp t.0 t.1 Drop) (λ (points : List ℕ × List ℕ). AreApart flags_and_icmp t.0 t.1 Drop points.0 points.1) c.in-None.is c.in_ok-apart.ensures in
    no_ends_named c.args.site.now c.args.tables.now c.args.compared t.1 c.requires.regular c.in_ok-tree.ensures.value
    (subst (λ (ts : List ℕ). AreAlikeBy (λ x. x) flags_and_icmp ts t.1 Drop) c.in_ok-tree.ensures.tops none)

pub packet_at-first-requires : goal.packet_at-first-requires
packet_at-first-requires c =
    let t = c.in_ok-tree.tree in
    let points = c.in-Some.points in
    let apart : AreApart flags_and_icmp t.0 t.1 Drop points.0 points.1
    = MatchOption-at_some (AreAlikeBy (λ x. x) flags_and_icmp t.0 t.1 Drop) (λ (points : List ℕ × List ℕ). AreApart flags_and_icmp t.0 t.1 Drop points.0 points.1) points c.in-Some.is c.in_ok-apart.ensures in
    let here : AreApart flags_and_icmp (tops_of c.args.site.now) t.1 Drop points.0 points.1 = subst (λ (ts : List ℕ). AreApart flags_and_icmp ts t.1 Drop points.0 points.1) c.in_ok-tree.ensures.tops apart in
    roomy c.args.site.now c.requires.sound points.0 here.have.within

pub packet_at-second-requires : goal.packet_at-second-requires
packet_at-second-requires c =
    let t = c.in_ok-tree.tree in
    let points = c.in-Some.points in
    let apart : AreApart flags_and_icmp t.0 t.1 Drop points.0 points.1
    = MatchOption-at_some (AreAlikeBy (λ x. x) flags_and_icmp t.0 t.1 Drop) (λ (points : List ℕ × List ℕ). AreApart flags_and_icmp t.0 t.1 Drop points.0 points.1) points c.in-Some.is c.in_ok-apart.ensures in
    let here : AreApart flags_and_icmp (tops_of c.args.site.now) t.1 Drop points.0 points.1 = subst (λ (ts : List ℕ). AreApart flags_and_icmp ts t.1 Drop points.0 points.1) c.in_ok-tree.ensures.tops apart in
    roomy c.args.site.now c.requires.sound points.1 here.have.other_within

pub returns : goal.returns
returns c =
    let site = c.args.site.now in
    let tables = c.args.tables.now in
    let t = c.in_ok-tree.tree in
    let points = c.in-Some.points in
    let apart : AreApart flags_and_icmp t.0 t.1 Drop points.0 points.1
    = MatchOption-at_some (AreAlikeBy (λ x. x) flags_and_icmp t.0 t.1 Drop) (λ (points : List ℕ × List ℕ). AreApart flags_and_icmp t.0 t.1 Drop points.0 points.1) points c.in-Some.is c.in_ok-apart.ensures in
    let here : AreApart flags_and_icmp (tops_of site) t.1 Drop points.0 points.1 = subst (λ (ts : List ℕ). AreApart flags_and_icmp ts t.1 Drop points.0 points.1) c.in_ok-tree.ensures.tops apart in
    let named : Packet → Packet → Type 0
    = λ p q. NamesPackets site (GetDifferentEnds c.args.compared tables) (record { packet = p; rec = None }) (Some (record { packet = q; rec = None })) in
    subst (λ (p : Packet). named p c.packet_at-second.result) (sym c.packet_at-first.ensures)
    (subst (λ (q : Packet). named (packet_of points.0) q) (sym c.packet_at-second.ensures)
    (ends_named site tables c.args.compared t.1 c.requires.regular c.in_ok-tree.ensures.value points.0 points.1 here))
