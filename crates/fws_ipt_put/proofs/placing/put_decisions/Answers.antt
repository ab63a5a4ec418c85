use Rattle.std.proofs.Common.{◌+◌, ◌^◌, ◌<◌, List, length, All, arith, sym, ap, ◌∙◌, subst}
use Rattle.fws_net.specs.Points.{tops_of}
use Rattle.fws_tree_seen.specs.declared.seen.Seen.TheVariants.{Entered, Routed}
use Rattle.fws_tree_seen.specs.SightLaws.{HasImages}
use Rattle.fws_ipt_put.specs.declared.marks.Mark.{Mark}
use Rattle.fws_ipt_put.specs.Drafts.{IsDraft, SetsMarks}
use Rattle.fws_ipt_put.specs.Marks.{AreMarks, HaveBlocks, passing, verdict_of}
use Rattle.fws_ipt_put.proofs.Begun.{draft_long}
use Rattle.fws_ipt_put.proofs.Supplied.{known_blocks, sets_marks, sets_none}
use Rattle.fws_ipt_put.proofs.Whole.{all_placed}
use Rattle.fws_ipt_put.proofs.placing.put_decisions.Goals as goal

pub drafted-requires-clause-sound : goal.drafted-requires-clause-sound
drafted-requires-clause-sound c = c.requires.sound

pub drafted-requires-clause-entering_tops : goal.drafted-requires-clause-entering_tops
drafted-requires-clause-entering_tops c = c.requires.entering_tops ∙ c.requires.packet_tops

pub drafted-requires-clause-news_tops : goal.drafted-requires-clause-news_tops
drafted-requires-clause-news_tops c = c.requires.news_tops ∙ c.requires.regular.fresh_tops

pub drafted-requires-clause-routed_tops : goal.drafted-requires-clause-routed_tops
drafted-requires-clause-routed_tops c = c.requires.routed_tops ∙ c.requires.behind_tops

pub drafted-requires-clause-entering_told : goal.drafted-requires-clause-entering_told
drafted-requires-clause-entering_told c =
    let site = c.args.site.now in
    let packet = c.args._views.now.packet in
    let entering = c.args.trees.now.entering.1 in
    c.relabelled_trees_are_told.ensures Entered (tops_of site) passing packet.1 entering
    (subst (λ ts. HasImages ts passing packet.1 entering) c.requires.packet_tops c.requires.entering)
    ((c.views_are_told.ensures site c.args._t.now c.requires.regular).packet packet.1 c.requires.packet)

pub drafted-requires-clause-news_told : goal.drafted-requires-clause-news_told
drafted-requires-clause-news_told c =
    let site = c.args.site.now in
    let fresh = c.args._t.now.fresh in
    let news = c.args.trees.now.news.1 in
    let rewrites = c.args.known.now.rewrites.keys in
    c.relabelled_trees_are_told-2.ensures Entered (tops_of site) (verdict_of rewrites) fresh.1 news
    (subst (λ ts. HasImages ts (verdict_of rewrites) fresh.1 news) c.requires.regular.fresh_tops c.requires.news)
    (c.views_are_told.ensures site c.args._t.now c.requires.regular).fresh

pub drafted-requires-clause-routed_told : goal.drafted-requires-clause-routed_told
drafted-requires-clause-routed_told c =
    let site = c.args.site.now in
    let behind = c.args._views.now.behind in
    let routed = c.args.trees.now.routed.1 in
    c.relabelled_trees_are_told.ensures Routed (tops_of site) passing behind.1 routed
    (subst (λ ts. HasImages ts passing behind.1 routed) c.requires.behind_tops c.requires.routed)
    ((c.views_are_told.ensures site c.args._t.now c.requires.regular).behind behind.1 c.requires.behind)

pub drafted-requires-clause-entering_marks : goal.drafted-requires-clause-entering_marks
drafted-requires-clause-entering_marks c =
    sets_none (tops_of c.args.site.now) c.args._views.now.packet.1 c.args.trees.now.entering.1
    (subst (λ ts. HasImages ts passing c.args._views.now.packet.1 c.args.trees.now.entering.1) c.requires.packet_tops c.requires.entering)

pub drafted-requires-clause-news_marks : goal.drafted-requires-clause-news_marks
drafted-requires-clause-news_marks c =
    subst (λ (marks : List Mark). SetsMarks (tops_of c.args.site.now) (length marks) c.args.trees.now.news.1) (sym c.as_slice-marks.ensures.value)
    (sets_marks (tops_of c.args.site.now) c.args._t.now.fresh.1 c.args.trees.now.news.1 c.args.known.now.rewrites.keys c.args.known.now.marks.items
    (subst (λ ts. HasImages ts (verdict_of c.args.known.now.rewrites.keys) c.args._t.now.fresh.1 c.args.trees.now.news.1) c.requires.regular.fresh_tops c.requires.news)
    c.requires.known.marked)

pub drafted-requires-clause-routed_marks : goal.drafted-requires-clause-routed_marks
drafted-requires-clause-routed_marks c =
    sets_none (tops_of c.args.site.now) c.args._views.now.behind.1 c.args.trees.now.routed.1
    (subst (λ ts. HasImages ts passing c.args._views.now.behind.1 c.args.trees.now.routed.1) c.requires.behind_tops c.requires.routed)

pub drafted-requires-clause-blocks : goal.drafted-requires-clause-blocks
drafted-requires-clause-blocks c =
    subst (All HaveBlocks) (sym c.as_slice-marks.ensures.value)
    (known_blocks c.args._t.now.fresh.0 c.args._t.now.fresh.1 c.args.known.now.marks.items c.requires.known.known)

pub drafted-requires-clause-few : goal.drafted-requires-clause-few
drafted-requires-clause-few c = omega (arith, c.as_slice-marks.ensures.len, c.if-marks-gt4000000000.false)

pub filled-requires-clause-sound : goal.filled-requires-clause-sound
filled-requires-clause-sound c = c.requires.sound

pub filled-requires-clause-many : goal.filled-requires-clause-many
filled-requires-clause-many c =
    (draft_long c.args.site.now c.args.trees.now.entering.1 c.args.trees.now.news.1 c.args.trees.now.routed.1 c.as_slice-marks.result.now c.in_ok-draft.draft c.in_ok-draft.ensures).0

pub filled-requires-clause-some : goal.filled-requires-clause-some
filled-requires-clause-some c =
    (draft_long c.args.site.now c.args.trees.now.entering.1 c.args.trees.now.news.1 c.args.trees.now.routed.1 c.as_slice-marks.result.now c.in_ok-draft.draft c.in_ok-draft.ensures).1

pub returns : goal.returns
returns c =
    let site = c.args.site.now in
    let t = c.args._t.now in
    let regular = c.requires.regular in
    let few : length c.args.known.now.marks.items + 5 < 2 ^ 32 = omega (arith, ap length c.as_slice-marks.ensures.value, c.if-marks-gt4000000000.false) in
    let count = c.len-count.ensures in
    all_placed site t regular c.points_are_seen.ensures c.fitting_pairs_are_told.ensures c.lost_pairs_are_dropped.ensures c.requires.fits
    c.args._views.now.packet.1 c.args._views.now.behind.1 c.args.trees.now.entering.1 c.args.trees.now.news.1 c.args.trees.now.routed.1
    c.args.known.now.rewrites.keys c.args.known.now.marks.items c.requires.packet c.requires.behind
    (subst (λ ts. HasImages ts passing c.args._views.now.packet.1 c.args.trees.now.entering.1) c.requires.packet_tops c.requires.entering)
    (subst (λ ts. HasImages ts (verdict_of c.args.known.now.rewrites.keys) t.fresh.1 c.args.trees.now.news.1) regular.fresh_tops c.requires.news)
    (subst (λ ts. HasImages ts passing c.args._views.now.behind.1 c.args.trees.now.routed.1) c.requires.behind_tops c.requires.routed)
    (subst (λ ts. AreMarks ts t.fresh.1 c.args.known.now.rewrites.keys c.args.known.now.marks.items) regular.fresh_tops c.requires.known)
    c.in_ok-draft.draft c.in_ok-chains.chains
    (subst (λ (marks : List Mark). IsDraft site c.args.trees.now.entering.1 c.args.trees.now.news.1 c.args.trees.now.routed.1 marks c.in_ok-draft.draft) c.as_slice-marks.ensures.value c.in_ok-draft.ensures)
    c.in_ok-chains.ensures few (omega (arith, count))
