-- What holds of a packet behind its list, and of a new one behind its translation.
use Rattle.std.proofs.Common.{true, false, ◌&&◌, Option, Some, None, option_map, IfSome}
use Rattle.std.specs.Option.{option_map_or}
use Rattle.std.proofs.lemmas.Bool.{cond_both}
use Rattle.fws_net.specs.declared.packet.Packet.{Packet}
use Rattle.fws_net.specs.declared.outcome.End.{End}
use Rattle.fws_net.specs.declared.connection.Kind.{Kind}
use Rattle.fws_net.specs.declared.connection.Kind.TheVariants.{New}
use Rattle.fws_net.specs.declared.site.Site.{Site}
use Rattle.fws_net.specs.declared.transit.Transit.{Transit}
use Rattle.fws_net.specs.Conditions.{is_shown}
use Rattle.fws_net.specs.Showing.{receiving, sending}
use Rattle.fws_net.specs.Transits.{with_dst, with_src}
use Rattle.fws_ios.specs.declared.config.IosConfig.{IosConfig}
use Rattle.fws_ios.specs.Walk.{passes, met, inner_end, first_end, source_end, translated_in, translated_out, routed_as, sent_as, arrived, forwarded}

module _ (c : IosConfig) (site : Site) (p : Packet) (P : Transit → Type 0) where
  mapped_kept : (f : Transit → Transit) (way : Option Transit) → IfSome way (λ t. P (f t)) → IfSome (option_map f way) P
  mapped_kept f None h = tt
  mapped_kept f (Some t) h = h

  -- what is routed meets its list ahead of that
  pub arrived_kept : (k : Kind) (t : Transit) → P (routed_as c site p k t) → IfSome (arrived c site p k t) P
  arrived_kept k t h =
      mapped_kept (routed_as c site p k) (met c site k false t)
      (cond_both (passes c site k false t) (Some t) None (λ way. IfSome way (λ u. P (routed_as c site p k u))) (λ e. h) (λ e. tt))

  -- what is sent meets its list behind that
  pub forwarded_kept : (k : Kind) (t : Transit) → P (sent_as c site p k t) → IfSome (forwarded c site p k t) P
  forwarded_kept k t h =
      let u = sent_as c site p k t in
      cond_both (passes c site k true u) (Some u) None (λ way. IfSome way P) (λ e. h) (λ e. tt)

  to_end_kept : (o : Option End) (t : Transit) → IfSome o (λ e. P (with_dst p e t)) → P t → P (option_map_or (λ e. with_dst p e t) o t)
  to_end_kept None t h k = k
  to_end_kept (Some e) t h k = h

  from_end_kept : (o : Option End) (t : Transit) → IfSome o (λ e. P (with_src p e t)) → P t → P (option_map_or (λ e. with_src p e t) o t)
  from_end_kept None t h k = k
  from_end_kept (Some e) t h k = h

  pub routed_kept : (t : Transit) → IfSome (first_end (inner_end t.packet) c.nats) (λ e. P (with_dst p e t)) → P t → P (routed_as c site p New t)
  routed_kept t h k =
      cond_both (is_shown (receiving t.packet) c.outside) (translated_in p c t) t P (λ e. to_end_kept (first_end (inner_end t.packet) c.nats) t h k) (λ e. k)

  pub sent_kept : (t : Transit) → IfSome (source_end c site New t) (λ e. P (with_src p e t)) → P t → P (sent_as c site p New t)
  sent_kept t h k =
      cond_both (is_shown (receiving t.packet) c.inside && is_shown (sending site t.packet) c.outside) (translated_out p c site New t) t P
      (λ e. from_end_kept (source_end c site New t) t h k) (λ e. k)
