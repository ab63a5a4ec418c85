-- The ways of packets of connections.
use Rattle.std.proofs.Common.{◌≡◌, ◌⊎◌, inl, inr, ℕ, Bool, true, false, cond, nat_eq, Some, option_and_then, refl, sym, ap, ◌∙◌}
use Rattle.fws_net.specs.declared.connection.Kind.TheVariants.{Est}
use Rattle.fws_net.specs.declared.connection.Rec.{Rec}
use Rattle.fws_net.specs.declared.exit.Exit.{Exit}
use Rattle.fws_net.specs.declared.exit.Exit.TheVariants.{Deliver, Out, Lost}
use Rattle.fws_net.specs.declared.outcome.Outcome.{Outcome}
use Rattle.fws_net.specs.declared.outcome.Outcome.TheVariants.{Drop, Accept}
use Rattle.fws_net.specs.declared.packet.Packet.{Packet}
use Rattle.fws_net.specs.declared.site.Site.{Site}
use Rattle.fws_net.specs.declared.transit.Transit.{Transit}
use Rattle.fws_net.specs.Routes.{exit_at, is_local, route_of}
use Rattle.fws_net.specs.Transits.{entered, nothing_written, onwards, outcome_of, with_tracked_dst}
use Rattle.fws_tree.specs.declared.tables.Tables.{Tables}
use Rattle.fws_pf.specs.declared.config.PfConfig.{PfConfig}
use Rattle.fws_pf.specs.Walk.{pass_of, walk}
use Rattle.fws_place.specs.Meaning.{IsPairOf, est_of}
use Rattle.fws_place.specs.Pairs.{IsLost}
use Rattle.fws_pf_put.proofs.Plan.{Known}

-- the host's own packets always leave
own_exit : (site : Site) (e dst : ℕ) → nat_eq e 0 ≡ true → exit_at site e dst ≡ Lost → ⊥
own_exit site e dst own lost =
    by (is_local site dst) (sym (ap (λ b. cond b (cond (is_local site dst) (Out 1) (Out (route_of site dst))) (cond (is_local site dst) Deliver (cond site.forwarding (Out (route_of site dst)) Lost))) own) ∙ lost) where
      by : (l : Bool) → cond l (Out 1) (Out (route_of site dst)) ≡ Lost → ⊥
      by true h = cc
      by false h = cc

module _ (site : Site) (tables : Tables) (known : Known site tables) (c : PfConfig) (p : Packet) (r : Rec) (of_site : IsPairOf site p r) where
  accepted : (IsLost site p r → ⊥) → est_of tables p r ≡ Accept nothing_written
  accepted found = by_pair (known.pairs p r of_site) where
    by_pair : (IsLost site p r × (est_of tables p r ≡ Drop)) ⊎ (est_of tables p r ≡ Accept nothing_written) → est_of tables p r ≡ Accept nothing_written
    by_pair (inl lost) = absurd (found lost.0)
    by_pair (inr is) = is

  abbrev ahead : Exit → Outcome
  ahead exit = outcome_of (Est r) (onwards Some (pass_of c site p (Est r) true) exit (with_tracked_dst (Est r) (entered p)))

  by_exit : (exit : Exit) → exit_at site p.entry r.rdst ≡ exit → ahead exit ≡ est_of tables p r
  by_exit Deliver is = sym (accepted (λ lost. other (sym is ∙ lost))) where
    other : Deliver ≡ Lost → ⊥
    other h = cc
  by_exit (Out entry) is = sym (accepted (λ lost. other (sym is ∙ lost))) where
    other : Out entry ≡ Lost → ⊥
    other h = cc
  by_exit Lost is = sym (known.lost p r of_site is)

  pub est_placed : walk c site p (Est r) ≡ est_of tables p r
  est_placed = by_host (nat_eq p.entry 0) refl where
    host_is : (h : Bool) → nat_eq p.entry 0 ≡ h → walk c site p (Est r) ≡ cond h (Accept nothing_written) (ahead (exit_at site p.entry r.rdst))
    host_is h is = ap (λ b. outcome_of (Est r) (cond b (pass_of c site p (Est r) true (entered p))
        (option_and_then (λ (t : Transit). onwards Some (pass_of c site p (Est r) true) (exit_at site p.entry t.packet.dst) t) (pass_of c site p (Est r) false (entered p))))) is ∙ by_test h where
          by_test : (h : Bool) → outcome_of (Est r) (cond h (pass_of c site p (Est r) true (entered p))
              (option_and_then (λ (t : Transit). onwards Some (pass_of c site p (Est r) true) (exit_at site p.entry t.packet.dst) t) (pass_of c site p (Est r) false (entered p))))
              ≡ cond h (Accept nothing_written) (ahead (exit_at site p.entry r.rdst))
          by_test true = refl
          by_test false = refl

    by_host : (h : Bool) → nat_eq p.entry 0 ≡ h → walk c site p (Est r) ≡ est_of tables p r
    by_host true own = host_is true own ∙ sym (accepted (own_exit site p.entry r.rdst own))
    by_host false arrives = host_is false arrives ∙ by_exit (exit_at site p.entry r.rdst) refl
