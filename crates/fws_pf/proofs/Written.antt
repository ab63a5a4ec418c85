-- Ports are written for TCP and UDP alone.
use Rattle.std.proofs.Common.{◌≡◌, ℕ, ◌≤◌, Bool, true, false, ◌&&◌, ◌||◌, not, nat_eq, nat_le, Option, Some, None, List, [], ◌∷◌, IfSome, arith, refl, ap, ◌∙◌, subst, ⊎_elim}
use Rattle.std.specs.List.{list_all}
use Rattle.std.specs.Option.{option_map_or}
use Rattle.std.proofs.lemmas.Bool.{false≢true, both_ways, and_parts, or_cases, leb-true, eqb-true}
use Rattle.fws_iv.specs.declared.iv.Iv.{Iv}
use Rattle.fws_iv.specs.Ivs.{in_part}
use Rattle.fws_net.specs.declared.condition.Lit.{Lit}
use Rattle.fws_net.specs.declared.condition.Test.{Test}
use Rattle.fws_net.specs.declared.condition.Test.TheVariants.{Proto}
use Rattle.fws_net.specs.declared.packet.Packet.{Packet}
use Rattle.fws_net.specs.declared.outcome.End.{End}
use Rattle.fws_net.specs.declared.site.Site.{Site}
use Rattle.fws_net.specs.declared.transit.Transit.{Transit}
use Rattle.fws_net.specs.declared.view.View.{View}
use Rattle.fws_net.specs.Conditions.{holds, lit_holds, test_holds}
use Rattle.fws_net.specs.Fates.{has_ports}
use Rattle.fws_rules.specs.Regular.{IsPortless}
use Rattle.fws_pf.specs.declared.config.PfConfig.{PfConfig}
use Rattle.fws_pf.specs.declared.config.PfNat.{PfNat}
use Rattle.fws_pf.specs.Drawn.{is_port_protocol}
use Rattle.fws_pf.specs.Soundness.{asks, names_protocol, cond_fits, tag_fits, end_fits, nat_fits}
use Rattle.fws_pf.specs.Walk.{view_on, written, translations, pass_walk}
use Rattle.fws_pf.proofs.Kept.{pass_kept}

-- Conditions that name a protocol

-- the only number of one interval is its least
only_one : (test : ℕ → Bool) (x : Iv) (v : ℕ) → (nat_eq x.lo x.hi && test x.lo) ≡ true → (in_part x v || false) ≡ true → test v ≡ true
only_one test x v asked there =
    let both = and_parts (nat_eq x.lo x.hi) (test x.lo) asked in
    let within = and_parts (nat_le x.lo v) (nat_le v x.hi) (⊎_elim (λ here. here) (λ none. absurd (false≢true none)) (or_cases (in_part x v) false there)) in
    let low : x.lo ≤ v = leb-true x.lo v within.0 in
    let high : v ≤ x.hi = leb-true v x.hi within.1 in
    let one : x.lo ≡ x.hi = eqb-true x.lo x.hi both.0 in
    let same : x.lo ≡ v = omega arith in
    subst (λ n. test n ≡ true) same both.1

asked_passes : (test : ℕ → Bool) (v : View) (t : Test) → asks test t ≡ true → test_holds v t ≡ true → test v.packet.proto ≡ true
asked_passes test v (Proto (x ∷ [])) asked on = only_one test x v.packet.proto asked on
asked_passes test v _ asked on = absurd (false≢true asked)

literal_passes : (test : ℕ → Bool) (v : View) (negated : Bool) (t : Test) → (not negated && asks test t) ≡ true → lit_holds v (record { not = negated; test = t }) ≡ true
    → test v.packet.proto ≡ true
literal_passes test v false t named on = asked_passes test v t named on
literal_passes test v true t named on = absurd (false≢true named)

-- where such a condition holds the packet has such a protocol
named_passes : (test : ℕ → Bool) (v : View) (cond : List Lit) → names_protocol test cond ≡ true → holds cond v ≡ true → test v.packet.proto ≡ true
named_passes test v [] named on = absurd (false≢true named)
named_passes test v (lit ∷ lits) named on =
    let both = and_parts (lit_holds v lit) (holds lits v) on in
    ⊎_elim (λ here. literal_passes test v lit.not lit.test here both.0) (λ more. named_passes test v lits more both.1)
    (or_cases (not lit.not && asks test lit.test) (names_protocol test lits) named)

-- an end that is written where no protocol with ports is has no port
unported : (named : Bool) (port : Option ℕ) → option_map_or (λ n. named) port true ≡ true → named ≡ false → port ≡ None
unported named None fit off = refl
unported named (Some n) fit off = absurd (both_ways named off fit)

module _ (c : PfConfig) (site : Site) (p : Packet) (tags : ℕ) (fits : (outward : Bool) → list_all (nat_fits tags) (translations c outward) ≡ true)
    (off : has_ports p.proto ≡ false) where
  end_written : (outward : Bool) (e : End) (t : Transit) → e.port ≡ None → IsPortless p t → IsPortless p (written p outward e t)
  end_written true e t none h = record { proto = refl; wrote = (none, h.wrote.1) }
  end_written false e t none h = record { proto = refl; wrote = (h.wrote.0, none) }

  moved : (outward : Bool) (cond : List Lit) (to : Option End) (t : Transit) → option_map_or (end_fits cond) to true ≡ true → holds cond (view_on site outward t) ≡ true
      → IsPortless p t → IsPortless p (option_map_or (λ e. written p outward e t) to t)
  moved outward cond None t fit on h = h
  moved outward cond (Some e) t fit on h =
      end_written outward e t (portless (names_protocol is_port_protocol cond) refl) h
    where
      portless : (named : Bool) → names_protocol is_port_protocol cond ≡ named → e.port ≡ None
      portless false same = unported (names_protocol is_port_protocol cond) e.port fit same
      portless true same =
          absurd (both_ways (has_ports t.packet.proto) (ap has_ports h.proto ∙ off) (named_passes is_port_protocol (view_on site outward t) cond same on))

  nat_portless : (outward : Bool) (nat : PfNat) → nat_fits tags nat ≡ true → (t : Transit) → holds nat.cond (view_on site outward t) ≡ true → IsPortless p t
      → IsPortless p (option_map_or (λ e. written p outward e t) nat.to t)
  nat_portless outward nat fit t on h =
      moved outward nat.cond nat.to t (and_parts (cond_fits tags nat.cond && tag_fits tags nat.tag) (option_map_or (end_fits nat.cond) nat.to true) fit).1 on h

  pub pass_portless : (outward : Bool) (t : Transit) → IsPortless p t → IfSome (pass_walk c site p outward t) (IsPortless p)
  pass_portless outward t h =
      pass_kept c site p (IsPortless p) outward (nat_fits tags) (fits outward) (λ xs u k. record { proto = k.proto; wrote = k.wrote })
      (λ accepts u k. record { proto = k.proto; wrote = k.wrote }) (nat_portless outward) t h
