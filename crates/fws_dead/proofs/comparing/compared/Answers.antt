use Rattle.std.proofs.Common.{List, ℕ, MatchOption, sym, ◌∙◌, subst}
use Rattle.fws_box.specs.Sides.{IsWithin}
use Rattle.fws_dead.specs.Searched.{AreValuesAlike, AreValuesApart}
use Rattle.fws_dead.proofs.Comparisons.{told_so}
use Rattle.fws_dead.proofs.Sides.{bounds_within}
use Rattle.fws_dead.proofs.comparing.compared.Goals as goal

pub difference-requires-clause-tops : goal.difference-requires-clause-tops
difference-requires-clause-tops c = (c.args.site.now, c.requires.first)

pub difference-requires-clause-same_tops : goal.difference-requires-clause-same_tops
difference-requires-clause-same_tops c = c.requires.second ∙ sym c.requires.first

pub lookup-one-requires : goal.lookup-one-requires
lookup-one-requires c =
    let apart = subst (λ o. MatchOption o (AreValuesAlike c.args.state c.args.first.now.0 c.args.first.now.1 c.args.second.now.1) (AreValuesApart c.args.state c.args.first.now.0 c.args.first.now.1 c.args.second.now.1)) c.in-Some.is c.in_ok-found.ensures in
    bounds_within c.args.state c.args.first.now.0 c.in-Some.point apart.inside

pub lookup-two-requires : goal.lookup-two-requires
lookup-two-requires c =
    let apart = subst (λ o. MatchOption o (AreValuesAlike c.args.state c.args.first.now.0 c.args.first.now.1 c.args.second.now.1) (AreValuesApart c.args.state c.args.first.now.0 c.args.first.now.1 c.args.second.now.1)) c.in-Some.is c.in_ok-found.ensures in
    subst (λ (l : List ℕ). IsWithin l c.in-Some.point) (c.requires.first ∙ sym c.requires.second) (bounds_within c.args.state c.args.first.now.0 c.in-Some.point apart.inside)

pub packet_at-packet-requires : goal.packet_at-packet-requires
packet_at-packet-requires c =
    let apart = subst (λ o. MatchOption o (AreValuesAlike c.args.state c.args.first.now.0 c.args.first.now.1 c.args.second.now.1) (AreValuesApart c.args.state c.args.first.now.0 c.args.first.now.1 c.args.second.now.1)) c.in-Some.is c.in_ok-found.ensures in
    (c.args.site.now, c.requires.sound, subst (λ (l : List ℕ). IsWithin l c.in-Some.point) c.requires.first (bounds_within c.args.state c.args.first.now.0 c.in-Some.point apart.inside))

pub kind_at-kind-requires : goal.kind_at-kind-requires
kind_at-kind-requires c =
    let apart = subst (λ o. MatchOption o (AreValuesAlike c.args.state c.args.first.now.0 c.args.first.now.1 c.args.second.now.1) (AreValuesApart c.args.state c.args.first.now.0 c.args.first.now.1 c.args.second.now.1)) c.in-Some.is c.in_ok-found.ensures in
    (c.args.site.now, subst (λ (l : List ℕ). IsWithin l c.in-Some.point) c.requires.first (bounds_within c.args.state c.args.first.now.0 c.in-Some.point apart.inside))

pub returns-in-Some : goal.returns-in-Some
returns-in-Some c =
    let state = c.args.state in
    let one = c.args.first.now.1 in
    let two = c.args.second.now.1 in
    let apart = subst (λ o. MatchOption o (AreValuesAlike state c.args.first.now.0 one two) (AreValuesApart state c.args.first.now.0 one two)) c.in-Some.is c.in_ok-found.ensures in
    told_so c.args.site.now state one two c.in-Some.point c.lookup-one.result.now c.lookup-two.result.now c.packet_at-packet.result c.kind_at-kind.result c.differing.result
    (subst (λ (l : List ℕ). AreValuesApart state l one two c.in-Some.point) c.requires.first apart)
    c.lookup-one.ensures c.lookup-two.ensures c.packet_at-packet.ensures c.kind_at-kind.ensures c.differing.ensures

pub returns-in-None : goal.returns-in-None
returns-in-None c =
    let state = c.args.state in
    let one = c.args.first.now.1 in
    let two = c.args.second.now.1 in
    let alike = subst (λ o. MatchOption o (AreValuesAlike state c.args.first.now.0 one two) (AreValuesApart state c.args.first.now.0 one two)) c.in-None.is c.in_ok-found.ensures in
    subst (λ (l : List ℕ). AreValuesAlike state l one two) c.requires.first alike
