-- Transits of alike packets stay alike.
use Rattle.std.proofs.Common.{◌≡◌, ℕ, Bool, true, false, ◌++◌, cond, not, nat_eq, Option, Some, None, filter, List, [], ◌∷◌, refl, ap, ◌∙◌, subst, option_and_then}
use Rattle.std.specs.List.{list_any}
use Rattle.std.proofs.lemmas.Bool.{true≢false, false≢true}
use Rattle.fws_net.specs.declared.packet.Packet.{Packet}
use Rattle.fws_net.specs.declared.outcome.End.{End}
use Rattle.fws_net.specs.declared.outcome.Rewrite.{Rewrite}
use Rattle.fws_net.specs.declared.outcome.Outcome.TheVariants as outcomes
use Rattle.fws_net.specs.declared.connection.Kind.{Kind}
use Rattle.fws_net.specs.declared.connection.Kind.TheVariants.{New, Est}
use Rattle.fws_net.specs.declared.exit.Exit.{Exit}
use Rattle.fws_net.specs.declared.exit.Exit.TheVariants.{Deliver, Out, Lost}
use Rattle.fws_net.specs.declared.site.Site.{Site}
use Rattle.fws_net.specs.declared.transit.Transit.{Transit}
use Rattle.fws_net.specs.Connections.{est_port}
use Rattle.fws_net.specs.Fates.{has_ports, written_addr, sent_port}
use Rattle.fws_net.specs.Routes.{exit_at}
use Rattle.fws_net.specs.Showing.{out_of}
use Rattle.fws_net.specs.Transits.{rewritten, seen, entered, with_verdict, with_wrote, with_src, with_dst, has_tag, with_tracked_src, with_tracked_dst, with_tag, decided, onwards, outcome_of}
use Rattle.fws_rules.specs.Alike.{Alike, AlikeViews}
use Rattle.fws_rules.specs.AlikeWays.{AlikeKinds, AlikeTransits, AlikeWays, MakeAlike, LeadAlike, AlikePacketsStayAlike}
use Rattle.fws_rules.proofs.Alike.{conditions_hold_alike}

-- a relation of two choices by tests that agree
pub both_chosen : {X : Type 0} (R : X → X → Type 0) (b d : Bool) (x y v w : X) → b ≡ d → R x v → R y w → R (cond b x y) (cond d v w)
both_chosen R true true x y v w e h k = h
both_chosen R false false x y v w e h k = k
both_chosen R true false x y v w e h k = absurd (true≢false e)
both_chosen R false true x y v w e h k = absurd (false≢true e)

pub then_alike : (p : Packet) (f g : Transit → Option Transit) → LeadAlike p f g
    → (x y : Option Transit) → AlikeWays p x y → AlikeWays p (option_and_then f x) (option_and_then g y)
then_alike p f g next (Some t) (Some u) h = next t u h
then_alike p f g next None None h = tt
then_alike p f g next _ _ h = absurd h

exit_alike : (site : Site) (p q : Packet) → Alike p q → exit_at site p.entry p.dst ≡ exit_at site q.entry q.dst
exit_alike site p q a = ap (λ x. exit_at site x p.dst) a.entry ∙ ap (exit_at site q.entry) a.dst

pub outcome_alike : (p : Packet) (k l : Kind) → AlikeKinds p k l → (x y : Option Transit) → AlikeWays p x y → outcome_of k x ≡ outcome_of l y
outcome_alike p New New same (Some t) (Some u) h = ap outcomes.Accept h.wrote
outcome_alike p (Est r) (Est s) same (Some t) (Some u) h = refl
outcome_alike p k l same None None h = refl
outcome_alike p k l same (Some t) None h = absurd h
outcome_alike p k l same None (Some u) h = absurd h
outcome_alike p _ _ same x y h = absurd same

module _ (p q : Packet) (a : Alike p q) where
  pub entered_alike : AlikeTransits p (entered p) (entered q)
  entered_alike = record { packet = a; tags = refl; verdict = refl; wrote = refl; proto = refl }

  -- What is written

  rewritten_alike : (w : Rewrite) → Alike (rewritten p w) (rewritten q w)
  rewritten_alike w = record {
    entry = a.entry;
    proto = a.proto;
    dst = ap (written_addr w.dst) a.dst;
    src = ap (written_addr w.src) a.src;
    dport = λ on. ap (sent_port p.proto w.dst) (a.dport on) ∙ ap (λ x. sent_port x w.dst q.dport) a.proto;
    sport = λ on. ap (sent_port p.proto w.src) (a.sport on) ∙ ap (λ x. sent_port x w.src q.sport) a.proto;
    flags = a.flags;
    icmp = a.icmp;
  }

  wrote_alike : (v w : Rewrite) (t u : Transit) → v ≡ w → AlikeTransits p t u → AlikeTransits p (with_wrote p v t) (with_wrote q w u)
  wrote_alike v w t u e h = record {
    packet = subst (λ x. Alike (rewritten p v) (rewritten q x)) e (rewritten_alike v);
    tags = h.tags;
    verdict = h.verdict;
    wrote = e;
    proto = refl;
  }

  src_alike : (e : End) → MakeAlike p (with_src p e) (with_src q e)
  src_alike e t u h =
      let with_end : Rewrite → Rewrite = λ w. record w { src = Some e } in
      wrote_alike (with_end t.wrote) (with_end u.wrote) t u (ap with_end h.wrote) h

  dst_alike : (e : End) → MakeAlike p (with_dst p e) (with_dst q e)
  dst_alike e t u h =
      let with_end : Rewrite → Rewrite = λ w. record w { dst = Some e } in
      wrote_alike (with_end t.wrote) (with_end u.wrote) t u (ap with_end h.wrote) h

  -- Established packets

  -- where the protocol has ports, a port with which both leave is one
  port_alike : (t u : Transit) → AlikeTransits p t u → (x y v w : ℕ) → (has_ports p.proto ≡ true → x ≡ y) → has_ports t.packet.proto ≡ true → v ≡ w
      → est_port t.packet.proto x v ≡ est_port u.packet.proto y w
  port_alike t u h x y v w same on e =
      ap (λ n. est_port t.packet.proto n v) (same (subst (λ n. has_ports n ≡ true) h.proto on))
      ∙ ap (λ n. est_port n y v) h.packet.proto ∙ ap (est_port u.packet.proto y) e

  tracked_src_alike : (k l : Kind) → AlikeKinds p k l → MakeAlike p (with_tracked_src k) (with_tracked_src l)
  tracked_src_alike New New same t u h = h
  tracked_src_alike (Est r) (Est s) same t u h = record {
    packet = record {
      entry = h.packet.entry;
      proto = h.packet.proto;
      dst = h.packet.dst;
      src = same.src;
      dport = h.packet.dport;
      sport = λ on. port_alike t u h r.rsport s.rsport t.packet.sport u.packet.sport same.sport on (h.packet.sport on);
      flags = h.packet.flags;
      icmp = h.packet.icmp;
    };
    tags = h.tags;
    verdict = h.verdict;
    wrote = h.wrote;
    proto = h.proto;
  }
  tracked_src_alike _ _ same t u h = absurd same

  tracked_dst_alike : (k l : Kind) → AlikeKinds p k l → MakeAlike p (with_tracked_dst k) (with_tracked_dst l)
  tracked_dst_alike New New same t u h = h
  tracked_dst_alike (Est r) (Est s) same t u h = record {
    packet = record {
      entry = h.packet.entry;
      proto = h.packet.proto;
      dst = same.dst;
      src = h.packet.src;
      dport = λ on. port_alike t u h r.rdport s.rdport t.packet.dport u.packet.dport same.dport on (h.packet.dport on);
      sport = h.packet.sport;
      flags = h.packet.flags;
      icmp = h.packet.icmp;
    };
    tags = h.tags;
    verdict = h.verdict;
    wrote = h.wrote;
    proto = h.proto;
  }
  tracked_dst_alike _ _ same t u h = absurd same

  -- Verdicts and tags

  verdict_alike : (accepts : Bool) → MakeAlike p (with_verdict accepts) (with_verdict accepts)
  verdict_alike accepts t u h = record { packet = h.packet; tags = h.tags; verdict = refl; wrote = h.wrote; proto = h.proto }

  tags_alike : (xs ys : List ℕ) (t u : Transit) → xs ≡ ys → AlikeTransits p t u → AlikeTransits p (record t { tags = xs }) (record u { tags = ys })
  tags_alike xs ys t u e h = record { packet = h.packet; tags = e; verdict = h.verdict; wrote = h.wrote; proto = h.proto }

  tag_alike : (n : ℕ) → MakeAlike p (with_tag n) (with_tag n)
  tag_alike n t u h =
      both_chosen (AlikeTransits p) (has_tag n t) (has_tag n u) t (record t { tags = t.tags ++ n ∷ [] }) u (record u { tags = u.tags ++ n ∷ [] })
      (ap (list_any (nat_eq n)) h.tags) h (tags_alike (t.tags ++ n ∷ []) (u.tags ++ n ∷ []) t u (ap (λ xs. xs ++ n ∷ []) h.tags) h)

  decided_alike : LeadAlike p decided decided
  decided_alike t u h = both_chosen (AlikeWays p) t.verdict u.verdict (Some t) None (Some u) None h.verdict h tt

  -- What is seen, and where they go on

  view_alike : (site : Site) (shows_recv shows_xmit is_outward est : Bool) (t u : Transit) → AlikeTransits p t u
      → AlikeViews (seen site shows_recv shows_xmit is_outward est t) (seen site shows_recv shows_xmit is_outward est u)
  view_alike site shows_recv shows_xmit is_outward est t u h = record {
    packet = h.packet;
    recv = ap (λ x. cond shows_recv (cond (nat_eq x 0) None (Some x)) None) h.packet.entry;
    xmit = ap (λ exit. cond shows_xmit (out_of exit) None) (exit_alike site t.packet u.packet h.packet);
    outward = refl;
    est = refl;
    tags = h.tags;
  }

  module _ (site : Site) (deliver forward deliver_other forward_other : Transit → Option Transit) (delivered : LeadAlike p deliver deliver_other)
      (forwarded : LeadAlike p forward forward_other) where
    by_exit : (exit : Exit) → LeadAlike p (onwards deliver forward exit) (onwards deliver_other forward_other exit)
    by_exit Deliver t u h = delivered t u h
    by_exit (Out entry) t u h = forwarded t u h
    by_exit Lost t u h = tt

    pub onwards_alike : LeadAlike p (λ t. onwards deliver forward (exit_at site p.entry t.packet.dst) t) (λ u. onwards deliver_other forward_other (exit_at site q.entry u.packet.dst) u)
    onwards_alike t u h =
        subst (λ exit. AlikeWays p (onwards deliver forward (exit_at site p.entry t.packet.dst) t) (onwards deliver_other forward_other exit u))
        (ap (λ x. exit_at site x t.packet.dst) a.entry ∙ ap (exit_at site q.entry) h.packet.dst)
        (by_exit (exit_at site p.entry t.packet.dst) t u h)

pub alike_packets_stay_alike : AlikePacketsStayAlike
alike_packets_stay_alike p q a = record {
  entered = entered_alike p q a;
  rewritten = rewritten_alike p q a;
  with_wrote = λ w t u h. wrote_alike p q a w w t u refl h;
  with_src = src_alike p q a;
  with_dst = dst_alike p q a;
  with_tracked_src = tracked_src_alike p q a;
  with_tracked_dst = tracked_dst_alike p q a;
  with_verdict = verdict_alike p q a;
  with_tag = tag_alike p q a;
  with_only_tag = λ n t u h. tags_alike p q a (n ∷ []) (n ∷ []) t u refl h;
  without_tag = λ n t u h. tags_alike p q a _ _ t u (ap (filter (λ tag. not (nat_eq n tag))) h.tags) h;
  holds = λ site shows_recv shows_xmit is_outward est lits t u h. conditions_hold_alike _ _ (view_alike p q a site shows_recv shows_xmit is_outward est t u h) lits;
  exit = λ site t u h. exit_alike site t.packet u.packet h.packet;
  onwards = onwards_alike p q a;
  chosen = both_chosen (AlikeWays p);
  decided = decided_alike p q a;
  outcome_of = outcome_alike p;
}
