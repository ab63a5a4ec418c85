-- Packets at the chains of a policy.
use Rattle.std.proofs.Common.{◌≡◌, ℕ, zero, suc, ◌+◌, ◌<◌, ◌≤◌, Bool, true, false, cond, nat_eq, get_or, Some, None, List, [], ◌∷◌, ◌++◌, length, arith, refl, sym, ap, ◌∙◌, subst}
use Rattle.std.proofs.lemmas.Bool.{false≢true}
use Rattle.std.specs.List.{count_by}
use Rattle.fws_box.specs.Sides.{IsWithin}
use Rattle.fws_iv.specs.Ivs.{has}
use Rattle.fws_net.specs.declared.connection.Kind.{Kind}
use Rattle.fws_net.specs.declared.connection.Kind.TheVariants.{New, Est}
use Rattle.fws_net.specs.declared.connection.Rec.{Rec}
use Rattle.fws_net.specs.declared.packet.Packet.{Packet}
use Rattle.fws_net.specs.declared.site.Site.{Site}
use Rattle.fws_net.specs.Points.{tops_of}
use Rattle.fws_net.specs.Showing.{receiving}
use Rattle.fws_net.specs.Transits.{with_rec_dst}
use Rattle.fws_tree.specs.declared.tables.Tables.{Tables}
use Rattle.fws_tree.specs.Plain.{Plain, value}
use Rattle.fws_tree_seen.specs.declared.seen.Seen.TheVariants.{Entered, Routed}
use Rattle.fws_tree_seen.specs.declared.seen.Seen.{Seen}
use Rattle.fws_tree_seen.specs.Shown.{IsSeenAs}
use Rattle.fws_ipt.specs.declared.config.IptConfig.{IptConfig}
use Rattle.fws_ipt.specs.declared.config.IptTable.TheVariants.{Filter, Mangle}
use Rattle.fws_ipt.specs.declared.hook.Hook.{Hook}
use Rattle.fws_ipt.specs.declared.hook.Hook.TheVariants.{Prerouting, Input, Forward, Output, Postrouting}
use Rattle.fws_ipt.specs.declared.passage.ChainEnd.{ChainEnd}
use Rattle.fws_ipt.specs.declared.passage.Passage.{Passage}
use Rattle.fws_ipt.specs.Walk.{act, by_policy, chain_walk, entering, shows_recv, view_at, visit}
use Rattle.fws_ipt_put_chains.specs.declared.verdict.Branch.{Branch}
use Rattle.fws_ipt_put_chains.specs.declared.verdict.Verdict.{Verdict}
use Rattle.fws_ipt_put_chains.specs.Branches.{verdict_end}
use Rattle.fws_place.specs.Meaning.{IsPacketOf, IsPairOf, no_ends, point_of}
use Rattle.fws_place.specs.TellingLaws.{PointsAreSeen}
use Rattle.fws_ipt_put.specs.Roots.{arriving_rules, go_at, sending_rules}
use Rattle.fws_ipt_put.proofs.RootsMet.{Decides, arriving_met, arriving_passed, branch_at, runs, sending_met, sending_passed}
use Rattle.fws_ipt_put.proofs.Standing.{LeadsIn, stood}
use Rattle.fws_ipt_put.proofs.Plan.{Known, Plan, Root}
use Rattle.fws_ipt_put.proofs.Written.{nil_behind, one_isnt_none}

module _ (seen : PointsAreSeen) (site : Site) (tables : Tables) (k : Known site tables) (c : IptConfig) (plan : Plan site tables k c.chains) where
  abbrev last : ℕ
  last = length site.faces + 1

  abbrev enter : Packet → Bool → Hook → ℕ → ℕ → Passage → ChainEnd
  enter p is_est hook at = chain_walk c.chains site p is_est hook plan.n (at ∷ [])

  -- Trees

  -- a branch decides what its tree holds
  decided : (sees : Seen) (t : Plain Verdict) (least : ℕ) (root : Root site c.chains plan.n sees t least)
      → (p : Packet) (is_est : Bool) (hook : Hook) (at : ℕ) (m : Passage) (x : List ℕ) (verdict : Verdict)
      → at < least → IsWithin (tops_of site) x → IsSeenAs sees m.packet x → value t x ≡ Some verdict → get_or x 0 0 ≤ last
      → Decides (enter p is_est hook at) site p is_est hook m (verdict_end verdict m) (go_at root.branches (get_or x 0 0))
  decided sees t least root p is_est hook at m x verdict low within is_seen is far =
      let found = branch_at (LeadsIn site c.chains plan.n sees t least) root.branches (get_or x 0 0) root.lead
      (λ zero_is. one_isnt_none (count_by (λ (b : Branch). has b.entries (get_or x 0 0)) root.branches) (root.parts.once (get_or x 0 0) far) zero_is) in
      λ next. ap (λ go. act (enter p is_est hook at) next site p hook go m) found.first
      ∙ found.such p is_est hook at next m x verdict low within is_seen is found.has_entry

  -- an arriving packet is shown with its entry
  recv_is : (p : Packet) (is_est : Bool) (hook : Hook) (m : Passage) → shows_recv hook ≡ true → nat_eq p.entry 0 ≡ false → m.packet.entry ≡ p.entry
      → (view_at site is_est hook m).recv ≡ Some p.entry
  recv_is p is_est hook m shows arrives same =
      ap (λ b. cond b (receiving m.packet) None) shows
      ∙ ap (λ e. cond (nat_eq e 0) None (Some e)) same
      ∙ ap (λ b. cond b None (Some p.entry)) arrives

  entry_low : (e : ℕ) → nat_eq e 0 ≡ false → 1 ≤ e
  entry_low zero arrives = absurd (false≢true (sym arrives))
  entry_low (suc e) arrives = omega arith

  -- mangle decides on new packets by the tree of these
  pub new_arrives : (p : Packet) (v : Verdict) → IsPacketOf site p → nat_eq p.entry 0 ≡ false → value k.news (point_of p no_ends) ≡ Some v
      → visit c site p New Mangle Prerouting (entering p) ≡ by_policy false (verdict_end v (entering p))
  new_arrives p v of_site arrives is =
      let known = arriving_rules true plan.known.branches plan.usual last in
      let fresh = arriving_rules false plan.fresh.branches plan.usual_new last in
      let m = entering p in
      stood c.chains Mangle Prerouting false (known ++ fresh) 0 plan.n plan.mangle_prerouting plan.size site p false m
      ∙ ap (by_policy false)
      (arriving_passed (enter p false Prerouting 0) site p false Prerouting m true plan.known.branches refl plan.usual last fresh
      ∙ ap (runs (enter p false Prerouting 0) site p false Prerouting m) (sym (nil_behind fresh))
      ∙ arriving_met (enter p false Prerouting 0) site p false Prerouting m false plan.fresh.branches refl p.entry
      (recv_is p false Prerouting m refl arrives refl) plan.usual_new last (entry_low p.entry arrives) of_site.0 (verdict_end v m)
      (decided Entered k.news 5 plan.fresh p false Prerouting 0 m (point_of p no_ends) v (omega arith) of_site (seen p no_ends).entered is of_site.0) [])

  pub new_sent : (p : Packet) (v : Verdict) → IsPacketOf site p → p.entry ≡ 0 → value k.news (point_of p no_ends) ≡ Some v
      → visit c site p New Mangle Output (entering p) ≡ by_policy false (verdict_end v (entering p))
  new_sent p v of_site host is =
      let known = sending_rules true plan.known.branches in
      let fresh = sending_rules false plan.fresh.branches in
      let m = entering p in
      stood c.chains Mangle Output false (known ++ fresh) 3 plan.n plan.mangle_output plan.size site p false m
      ∙ ap (by_policy false)
      (sending_passed (enter p false Output 3) site p false Output m true plan.known.branches refl fresh
      ∙ sending_met (enter p false Output 3) site p false Output m false plan.fresh.branches refl (verdict_end v m)
      (subst (λ e. Decides (enter p false Output 3) site p false Output m (verdict_end v m) (go_at plan.fresh.branches e)) host
      (decided Entered k.news 5 plan.fresh p false Output 3 m (point_of p no_ends) v (omega arith) of_site (seen p no_ends).entered is of_site.0)) [])

  -- and on packets of connections by theirs
  pub est_arrives : (p : Packet) (r : Rec) (v : Verdict) → IsPairOf site p r → nat_eq p.entry 0 ≡ false → value k.entering (point_of p r) ≡ Some v
      → visit c site p (Est r) Mangle Prerouting (entering p) ≡ by_policy false (verdict_end v (entering p))
  est_arrives p r v of_site arrives is =
      let known = arriving_rules true plan.known.branches plan.usual last in
      let fresh = arriving_rules false plan.fresh.branches plan.usual_new last in
      let m = entering p in
      stood c.chains Mangle Prerouting false (known ++ fresh) 0 plan.n plan.mangle_prerouting plan.size site p true m
      ∙ ap (by_policy false)
      (arriving_met (enter p true Prerouting 0) site p true Prerouting m true plan.known.branches refl p.entry
      (recv_is p true Prerouting m refl arrives refl) plan.usual last (entry_low p.entry arrives) of_site.0 (verdict_end v m)
      (decided Entered k.entering 5 plan.known p true Prerouting 0 m (point_of p r) v (omega arith) of_site (seen p r).entered is of_site.0) fresh)

  pub est_sent : (p : Packet) (r : Rec) (v : Verdict) → IsPairOf site p r → p.entry ≡ 0 → value k.entering (point_of p r) ≡ Some v
      → visit c site p (Est r) Mangle Output (entering p) ≡ by_policy false (verdict_end v (entering p))
  est_sent p r v of_site host is =
      let known = sending_rules true plan.known.branches in
      let fresh = sending_rules false plan.fresh.branches in
      let m = entering p in
      stood c.chains Mangle Output false (known ++ fresh) 3 plan.n plan.mangle_output plan.size site p true m
      ∙ ap (by_policy false)
      (sending_met (enter p true Output 3) site p true Output m true plan.known.branches refl (verdict_end v m)
      (subst (λ e. Decides (enter p true Output 3) site p true Output m (verdict_end v m) (go_at plan.known.branches e)) host
      (decided Entered k.entering 5 plan.known p true Output 3 m (point_of p r) v (omega arith) of_site (seen p r).entered is of_site.0)) fresh)

  -- filter passes new packets
  pub new_delivered : (p : Packet) (m : Passage) → visit c site p New Filter Input m ≡ Some m
  new_delivered p m =
      let rules = arriving_rules true plan.reply.branches plan.usual_in last in
      stood c.chains Filter Input true rules plan.filter_input_at plan.n plan.filter_input plan.size site p false m
      ∙ ap (by_policy true)
      (ap (runs (enter p false Input plan.filter_input_at) site p false Input m) (sym (nil_behind rules))
      ∙ arriving_passed (enter p false Input plan.filter_input_at) site p false Input m true plan.reply.branches refl plan.usual_in last [])

  pub new_forwarded : (p : Packet) (m : Passage) → visit c site p New Filter Forward m ≡ Some m
  new_forwarded p m =
      let rules = arriving_rules true plan.reply.branches plan.usual_forward last in
      stood c.chains Filter Forward true rules plan.filter_forward_at plan.n plan.filter_forward plan.size site p false m
      ∙ ap (by_policy true)
      (ap (runs (enter p false Forward plan.filter_forward_at) site p false Forward m) (sym (nil_behind rules))
      ∙ arriving_passed (enter p false Forward plan.filter_forward_at) site p false Forward m true plan.reply.branches refl plan.usual_forward last [])

  pub new_output : (p : Packet) (m : Passage) → visit c site p New Filter Output m ≡ Some m
  new_output p m =
      let rules = sending_rules true plan.reply.branches in
      stood c.chains Filter Output true rules plan.filter_output_at plan.n plan.filter_output plan.size site p false m
      ∙ ap (by_policy true) (sending_passed (enter p false Output plan.filter_output_at) site p false Output m true plan.reply.branches refl [])

  -- and decides on those of connections by what is seen behind routing
  pub est_delivered : (p : Packet) (r : Rec) (v : Verdict) (m : Passage) → IsPairOf site p r → nat_eq p.entry 0 ≡ false → m.packet ≡ with_rec_dst r p
      → value k.routed (point_of p r) ≡ Some v → visit c site p (Est r) Filter Input m ≡ by_policy true (verdict_end v m)
  est_delivered p r v m of_site arrives same is =
      let rules = arriving_rules true plan.reply.branches plan.usual_in last in
      let low = plan.filter_input_low in
      stood c.chains Filter Input true rules plan.filter_input_at plan.n plan.filter_input plan.size site p true m
      ∙ ap (by_policy true)
      (ap (runs (enter p true Input plan.filter_input_at) site p true Input m) (sym (nil_behind rules))
      ∙ arriving_met (enter p true Input plan.filter_input_at) site p true Input m true plan.reply.branches refl p.entry
      (recv_is p true Input m refl arrives (ap (λ (q : Packet). q.entry) same)) plan.usual_in last (entry_low p.entry arrives) of_site.0 (verdict_end v m)
      (decided Routed k.routed plan.least plan.reply p true Input plan.filter_input_at m (point_of p r) v low of_site
      (subst (λ q. IsSeenAs Routed q (point_of p r)) (sym same) (seen p r).routed) is of_site.0) [])

  pub est_forwarded : (p : Packet) (r : Rec) (v : Verdict) (m : Passage) → IsPairOf site p r → nat_eq p.entry 0 ≡ false → m.packet ≡ with_rec_dst r p
      → value k.routed (point_of p r) ≡ Some v → visit c site p (Est r) Filter Forward m ≡ by_policy true (verdict_end v m)
  est_forwarded p r v m of_site arrives same is =
      let rules = arriving_rules true plan.reply.branches plan.usual_forward last in
      let at = plan.filter_forward_at in
      let low = plan.filter_forward_low in
      stood c.chains Filter Forward true rules at plan.n plan.filter_forward plan.size site p true m
      ∙ ap (by_policy true)
      (ap (runs (enter p true Forward at) site p true Forward m) (sym (nil_behind rules))
      ∙ arriving_met (enter p true Forward at) site p true Forward m true plan.reply.branches refl p.entry
      (recv_is p true Forward m refl arrives (ap (λ (q : Packet). q.entry) same)) plan.usual_forward last (entry_low p.entry arrives) of_site.0 (verdict_end v m)
      (decided Routed k.routed plan.least plan.reply p true Forward at m (point_of p r) v low of_site
      (subst (λ q. IsSeenAs Routed q (point_of p r)) (sym same) (seen p r).routed) is of_site.0) [])

  pub est_output : (p : Packet) (r : Rec) (v : Verdict) (m : Passage) → IsPairOf site p r → p.entry ≡ 0 → m.packet ≡ with_rec_dst r p
      → value k.routed (point_of p r) ≡ Some v → visit c site p (Est r) Filter Output m ≡ by_policy true (verdict_end v m)
  est_output p r v m of_site host same is =
      let rules = sending_rules true plan.reply.branches in
      let at = plan.filter_output_at in
      stood c.chains Filter Output true rules at plan.n plan.filter_output plan.size site p true m
      ∙ ap (by_policy true)
      (sending_met (enter p true Output at) site p true Output m true plan.reply.branches refl (verdict_end v m)
      (subst (λ e. Decides (enter p true Output at) site p true Output m (verdict_end v m) (go_at plan.reply.branches e)) host
      (decided Routed k.routed plan.least plan.reply p true Output at m (point_of p r) v plan.filter_output_low of_site
      (subst (λ q. IsSeenAs Routed q (point_of p r)) (sym same) (seen p r).routed) is of_site.0)) [])

  -- the chains of mangle behind the first pass all packets
  pub mangle_delivered : (p : Packet) (kind : Kind) (m : Passage) → visit c site p kind Mangle Input m ≡ Some m
  mangle_delivered p New m = stood c.chains Mangle Input true [] 1 plan.n plan.mangle_input plan.size site p false m
  mangle_delivered p (Est r) m = stood c.chains Mangle Input true [] 1 plan.n plan.mangle_input plan.size site p true m

  pub mangle_forwarded : (p : Packet) (kind : Kind) (m : Passage) → visit c site p kind Mangle Forward m ≡ Some m
  mangle_forwarded p New m = stood c.chains Mangle Forward true [] 2 plan.n plan.mangle_forward plan.size site p false m
  mangle_forwarded p (Est r) m = stood c.chains Mangle Forward true [] 2 plan.n plan.mangle_forward plan.size site p true m

  pub mangle_leaves : (p : Packet) (kind : Kind) (m : Passage) → visit c site p kind Mangle Postrouting m ≡ Some m
  mangle_leaves p New m = stood c.chains Mangle Postrouting true [] 4 plan.n plan.mangle_postrouting plan.size site p false m
  mangle_leaves p (Est r) m = stood c.chains Mangle Postrouting true [] 4 plan.n plan.mangle_postrouting plan.size site p true m
