-- Filled drafts do what tables say.
use Rattle.std.proofs.Common.{◌≡◌, true, List, [], ◌++◌, All, refl, sym, ◌∙◌, subst}
use Rattle.std.specs.List.{list_all}
use Rattle.fws_net.specs.declared.site.Site.{Site}
use Rattle.fws_tree.specs.declared.tables.Tables.{Tables}
use Rattle.fws_tree.specs.Regular.{AreRegular}
use Rattle.fws_ipt.specs.declared.config.IptChain.{IptChain}
use Rattle.fws_ipt.specs.declared.config.IptConfig.{IptConfig}
use Rattle.fws_ipt_print.specs.Printable.{is_printed_chain, is_printable}
use Rattle.fws_place.specs.TellingLaws.{PointsAreSeen}
use Rattle.fws_ipt_put.specs.declared.chains.Draft.{Draft}
use Rattle.fws_ipt_put.specs.Builtin.{filter_chains, mangle_chains, nat_chains}
use Rattle.fws_ipt_put.specs.Drafts.{IsDraft, IsFilled}
use Rattle.fws_ipt_put.specs.Marks.{mark_chains}
use Rattle.fws_ipt_put.specs.Placed.{IsPlaced}
use Rattle.fws_ipt_put.proofs.Altered.{Closed}
use Rattle.fws_ipt_put.proofs.Closing.{all_joined, closed_by, marks_settled, printed_settled, settled, settled_same}
use Rattle.fws_ipt_put.proofs.Drafted as drafted
use Rattle.fws_ipt_put.proofs.Filling.{refilled_is_users}
use Rattle.fws_ipt_put.proofs.Plan.{Known, Plan}
use Rattle.fws_ipt_put.proofs.Ways.{new_placed, est_placed}

module _ (site : Site) (tables : Tables) (k : Known site tables) (draft : Draft) (d : IsDraft site k.entering k.news k.routed k.marks draft) where
  abbrev empty : List IptChain
  empty = drafted.empty site tables k draft d

  abbrev Printed : List IptChain → List IptChain → Type 0
  Printed chains block = All (λ (chain : IptChain). is_printed_chain site chains chain ≡ true) block

  -- the chains of the trees are printed in the draft
  pub known_printed : Printed empty d.known_block.block
  known_printed = subst (λ l. Printed l d.known_block.block) (sym (drafted.from_known site tables k draft d)) (d.known_block.printed (drafted.past_known site tables k draft d))

  pub fresh_printed : Printed empty d.fresh_block.block
  fresh_printed = subst (λ l. Printed l d.fresh_block.block) (sym (drafted.from_fresh site tables k draft d)) (d.fresh_block.printed (drafted.past_fresh site tables k draft d))

  pub reply_printed : Printed empty d.reply_block.block
  reply_printed = subst (λ l. Printed l d.reply_block.block) (sym (drafted.from_reply site tables k draft d)) (d.reply_block.printed [])

  module _ (chains : List IptChain) (f : IsFilled site draft chains) where
    abbrev all : List IptChain
    all = drafted.all site tables k draft d chains f

    settled_draft : list_all (settled empty) all ≡ true
    settled_draft =
        let one = mangle_chains f.arriving f.sending ++ mark_chains 5 k.marks in
        let two = one ++ d.known_block.block in
        let three = two ++ d.fresh_block.block in
        let four = three ++ nat_chains k.marks in
        let five = four ++ filter_chains f.delivering f.forwarding f.sent in
        all_joined (settled empty) five d.reply_block.block
        (all_joined (settled empty) four (filter_chains f.delivering f.forwarding f.sent)
        (all_joined (settled empty) three (nat_chains k.marks)
        (all_joined (settled empty) two d.fresh_block.block
        (all_joined (settled empty) one d.known_block.block
        (all_joined (settled empty) (mangle_chains f.arriving f.sending) (mark_chains 5 k.marks) refl (marks_settled empty 5 k.marks))
        (printed_settled site empty d.known_block.block known_printed))
        (printed_settled site empty d.fresh_block.block fresh_printed))
        refl)
        refl)
        (printed_settled site empty d.reply_block.block reply_printed)

    closed : Closed all
    closed = closed_by all all
        (settled_same all empty (refilled_is_users all empty (drafted.refilled site tables k draft d chains f)) all ∙ settled_draft)

    pub plan : Plan site tables k chains
    plan = subst (Plan site tables k) (sym (drafted.all_are site tables k draft d chains f)) (drafted.plan site tables k draft d chains f closed)

-- the configuration is placed, if it can be printed
pub placed : PointsAreSeen → (site : Site) (tables : Tables) → AreRegular site tables → (k : Known site tables) (draft : Draft) (d : IsDraft site k.entering k.news k.routed k.marks draft)
    → (c : IptConfig) → IsFilled site draft c.chains → is_printable site c ≡ true → IsPlaced site tables c
placed seen site tables regular k draft d c f printable =
    let p = plan site tables k draft d c.chains f in
    record {
      printable = printable;
      tracks = refl;
      new = λ q of_site. new_placed seen site tables regular k c p q of_site;
      established = λ q r of_site. est_placed seen site tables regular k c p q r of_site;
    }
