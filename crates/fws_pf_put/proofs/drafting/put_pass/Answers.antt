use Rattle.std.proofs.Common.{ℕ, List, sym, subst}
use Rattle.fws_tree.specs.Shared.{IsShared}
use Rattle.fws_tree_seen.specs.declared.seen.Seen.TheVariants.{Entered}
use Rattle.fws_tree_seen.specs.Shown.{IsTold}
use Rattle.fws_pf_put_nat.specs.Translations.{IsTranslations, KeepsPortsOutward, WritesOneEnd, WritesPortsOfProtocols}
use Rattle.fws_pf_put.proofs.Premises.{keeps_ports, one_end, ports_of_protocols}
use Rattle.fws_pf_put.proofs.drafting.put_pass.Goals as goal

pub put_translations-requires-clause-sound : goal.put_translations-requires-clause-sound
put_translations-requires-clause-sound c = c.requires.sound

pub put_translations-requires-clause-tops : goal.put_translations-requires-clause-tops
put_translations-requires-clause-tops c = c.requires.regular.fresh_tops

pub put_translations-requires-clause-shared : goal.put_translations-requires-clause-shared
put_translations-requires-clause-shared c =
    let g = c.args.ground.now in
    subst (λ (ts : List ℕ). IsShared ts g.tables.now.fresh.1 g.leaves.now g.nodes.now) (sym c.requires.regular.fresh_tops) c.requires.shared

pub put_translations-requires-clause-told : goal.put_translations-requires-clause-told
put_translations-requires-clause-told c =
    let g = c.args.ground.now in
    subst (λ (ts : List ℕ). IsTold Entered ts g.tables.now.fresh.1) (sym c.requires.regular.fresh_tops) (c.views_are_told.ensures g.site.now g.tables.now c.requires.regular).fresh

pub put_translations-requires-clause-states : goal.put_translations-requires-clause-states
put_translations-requires-clause-states c = c.requires.stated.size

pub put_translations-requires-clause-ports : goal.put_translations-requires-clause-ports
put_translations-requires-clause-ports c =
    let g = c.args.ground.now in
    subst (λ (ts : List ℕ). WritesPortsOfProtocols ts g.tables.now.fresh.1) (sym c.requires.regular.fresh_tops) (ports_of_protocols g.site.now g.tables.now c.requires.regular)

pub put_translations-requires-clause-one : goal.put_translations-requires-clause-one
put_translations-requires-clause-one c =
    let g = c.args.ground.now in
    subst (λ (ts : List ℕ). WritesOneEnd c.args.outward ts g.tables.now.fresh.1) (sym c.requires.regular.fresh_tops)
    (one_end g.site.now g.tables.now c.requires.regular c.points_are_of_pairs.ensures c.args.outward c.requires.fits c.pf_destinations_agree.ensures c.pf_host_sources_agree.ensures)

pub put_translations-requires-clause-bare : goal.put_translations-requires-clause-bare
put_translations-requires-clause-bare c =
    let g = c.args.ground.now in
    subst (λ (ts : List ℕ). KeepsPortsOutward c.args.outward ts g.tables.now.fresh.1) (sym c.requires.regular.fresh_tops)
    (keeps_ports g.site.now g.tables.now c.requires.regular c.points_are_of_pairs.ensures c.args.outward c.requires.fits c.pf_keeps_new_packets.ensures)

pub returns : goal.returns
returns c =
    let g = c.args.ground.now in
    let put = c.in_ok-put_translations.ensures in
    (put.0, put.1, subst (λ (ts : List ℕ). IsTranslations g.site.now ts g.tables.now.fresh.1 g.leaves.now g.nodes.now g.states.now c.args.outward put.0) c.requires.regular.fresh_tops put.2)
