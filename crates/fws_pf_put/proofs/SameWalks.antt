-- A configuration whose tags have other numbers does the same.
use Rattle.std.proofs.Common.{◌≡◌, ℕ, Bool, true, false, cond, ◌&&◌, ◌||◌, not, nat_eq, Option, Some, None, option_and_then, option_map, List, [], ◌∷◌, map, suc, arith, refl, sym, ap, ◌∙◌}
use Rattle.std.proofs.lemmas.Bool.{eqb-true, eq-eqb, false≢true}
use Rattle.std.specs.List.{list_any}
use Rattle.std.specs.Option.{option_map_or}
use Rattle.fws_net.specs.declared.condition.Lit.{Lit}
use Rattle.fws_net.specs.declared.condition.Test.{Test}
use Rattle.fws_net.specs.declared.condition.Test.TheVariants.{Src, Dst, Sport, Dport, Proto, Icmp, Flags, AnyFlag, Recv, Xmit, Via, Outward, Est, Tag, Never}
use Rattle.fws_net.specs.declared.connection.Kind.{Kind}
use Rattle.fws_net.specs.declared.connection.Kind.TheVariants as kinds
use Rattle.fws_net.specs.declared.exit.Exit.{Exit}
use Rattle.fws_net.specs.declared.exit.Exit.TheVariants.{Deliver, Out, Lost}
use Rattle.fws_net.specs.declared.outcome.End.{End}
use Rattle.fws_net.specs.declared.packet.Packet.{Packet}
use Rattle.fws_net.specs.declared.site.Site.{Site}
use Rattle.fws_net.specs.declared.transit.Transit.{Transit}
use Rattle.fws_net.specs.declared.view.View.{View}
use Rattle.fws_net.specs.Conditions.{holds, is_shown, lit_holds, test_holds}
use Rattle.fws_net.specs.Routes.{exit_at}
use Rattle.fws_net.specs.Transits.{decided, entered, onwards, outcome_of}
use Rattle.fws_pf.specs.declared.config.PfConfig.{PfConfig}
use Rattle.fws_pf.specs.declared.config.PfNat.{PfNat}
use Rattle.fws_pf.specs.declared.config.PfRule.{PfRule}
use Rattle.fws_pf.specs.Walk.{acted, behind, chosen, interface_of, is_met, matches, pass_of, pass_walk, rules_walk, tagged, translated_by, translations, view_on, walk, way_of, written}
use Rattle.fws_pf_put.specs.Renumbered.{IsApart, place_in, renamed, renamed_cond, renamed_lit, renamed_nat, renamed_rule, renamed_test}

module _ (f : ℕ → ℕ) (apart : IsApart f) where
  -- a packet whose tags have the other numbers
  abbrev pub retagged : Transit → Transit
  retagged t = record { packet = t.packet; tags = map f t.tags; verdict = t.verdict; wrote = t.wrote }

  abbrev review : View → View
  review v = record { packet = v.packet; recv = v.recv; xmit = v.xmit; outward = v.outward; est = v.est; tags = map f v.tags }

  -- Conditions

  same_number : (m n : ℕ) → nat_eq (f m) (f n) ≡ nat_eq m n
  same_number m n = by_test (nat_eq m n) refl where
    by_test : (b : Bool) → nat_eq m n ≡ b → nat_eq (f m) (f n) ≡ b
    by_test true is = eq-eqb (f m) (f n) (ap f (eqb-true m n is))
    by_test false is = by_other (nat_eq (f m) (f n)) refl where
      by_other : (b : Bool) → nat_eq (f m) (f n) ≡ b → b ≡ false
      by_other true same = absurd (false≢true (sym is ∙ eq-eqb m n (apart m n (eqb-true (f m) (f n) same))))
      by_other false same = refl

  same_any : (n : ℕ) (tags : List ℕ) → list_any (nat_eq (f n)) (map f tags) ≡ list_any (nat_eq n) tags
  same_any n [] = refl
  same_any n (tag ∷ tags) =
      ap (λ b. b || list_any (nat_eq (f n)) (map f tags)) (same_number n tag) ∙ ap (λ b. nat_eq n tag || b) (same_any n tags)

  same_test : (v : View) (test : Test) → test_holds (review v) (renamed_test f test) ≡ test_holds v test
  same_test v (Tag n) = same_any n v.tags
  same_test v (Src set) = refl
  same_test v (Dst set) = refl
  same_test v (Sport set) = refl
  same_test v (Dport set) = refl
  same_test v (Proto set) = refl
  same_test v (Icmp set) = refl
  same_test v (Flags mask want) = refl
  same_test v (AnyFlag mask) = refl
  same_test v (Recv set) = refl
  same_test v (Xmit set) = refl
  same_test v (Via set) = refl
  same_test v Outward = refl
  same_test v Est = refl
  same_test v Never = refl

  same_lit : (v : View) (lit : Lit) → lit_holds (review v) (renamed_lit f lit) ≡ lit_holds v lit
  same_lit v lit = ap (λ b. cond lit.not (not b) b) (same_test v lit.test)

  pub same_holds : (v : View) (lits : List Lit) → holds (renamed_cond f lits) (review v) ≡ holds lits v
  same_holds v [] = refl
  same_holds v (lit ∷ lits) =
      ap (λ b. b && holds (renamed_cond f lits) (review v)) (same_lit v lit) ∙ ap (λ b. lit_holds v lit && b) (same_holds v lits)

  -- Translations

  by_found : (b c : Bool) (x : PfNat) (o p : Option PfNat) → b ≡ c → o ≡ option_map (renamed_nat f) p → cond b (Some (renamed_nat f x)) o ≡ option_map (renamed_nat f) (cond c (Some x) p)
  by_found b true x o p same rest = ap (λ d. cond d (Some (renamed_nat f x)) o) same
  by_found b false x o p same rest = ap (λ d. cond d (Some (renamed_nat f x)) o) same ∙ rest

  same_chosen : (site : Site) (outward : Bool) (nats : List PfNat) (t : Transit)
      → chosen site outward (map (renamed_nat f) nats) (retagged t) ≡ option_map (renamed_nat f) (chosen site outward nats t)
  same_chosen site outward [] t = refl
  same_chosen site outward (nat ∷ nats) t =
      by_found (holds (renamed_cond f nat.cond) (review (view_on site outward t))) (holds nat.cond (view_on site outward t)) nat
      (chosen site outward (map (renamed_nat f) nats) (retagged t)) (chosen site outward nats t)
      (same_holds (view_on site outward t) nat.cond) (same_chosen site outward nats t)

  same_tagged : (tag : Option ℕ) (t : Transit) → tagged (option_map f tag) (retagged t) ≡ retagged (tagged tag t)
  same_tagged None t = refl
  same_tagged (Some n) t = refl

  same_written : (p : Packet) (outward : Bool) (to : Option End) (t : Transit)
      → option_map_or (λ e. written p outward e (retagged t)) to (retagged t) ≡ retagged (option_map_or (λ e. written p outward e t) to t)
  same_written p outward None t = refl
  same_written p true (Some e) t = refl
  same_written p false (Some e) t = refl

  same_translated : (p : Packet) (outward : Bool) (nat : PfNat) (t : Transit)
      → translated_by p outward (renamed_nat f nat) (retagged t) ≡ retagged (translated_by p outward nat t)
  same_translated p outward nat t =
      ap (tagged (option_map f nat.tag)) (same_written p outward nat.to t)
      ∙ same_tagged nat.tag (option_map_or (λ e. written p outward e t) nat.to t)

  -- Filter rules

  same_acted : (r : PfRule) (t : Transit) → acted (renamed_rule f r) (retagged t) ≡ retagged (acted r t)
  same_acted r t = ap (λ (u : Transit). record u { verdict = r.pass }) (same_tagged r.tag t)

  same_decided : (t : Transit) → decided (retagged t) ≡ option_map retagged (decided t)
  same_decided t = by_verdict t.verdict where
    by_verdict : (b : Bool) → cond b (Some (retagged t)) None ≡ option_map retagged (cond b (Some t) None)
    by_verdict true = refl
    by_verdict false = refl

  by_match : (b c quick : Bool) (x y z : Option Transit) (u v w : Option Transit) → b ≡ c → x ≡ option_map retagged u → y ≡ option_map retagged v → z ≡ option_map retagged w
      → cond b (cond quick x y) z ≡ option_map retagged (cond c (cond quick u v) w)
  by_match b true true x y z u v w same first second third = ap (λ d. cond d x z) same ∙ first
  by_match b true false x y z u v w same first second third = ap (λ d. cond d y z) same ∙ second
  by_match b false quick x y z u v w same first second third = ap (λ d. cond d (cond quick x y) z) same ∙ third

  pub same_rules : (site : Site) (outward : Bool) (rules : List PfRule) (t : Transit)
      → rules_walk site outward (map (renamed_rule f) rules) (retagged t) ≡ option_map retagged (rules_walk site outward rules t)
  same_rules site outward [] t = same_decided t
  same_rules site outward (r ∷ rules) t =
      by_match (matches site outward (renamed_rule f r) (retagged t)) (matches site outward r t) r.quick
      (decided (acted (renamed_rule f r) (retagged t))) (rules_walk site outward (map (renamed_rule f) rules) (acted (renamed_rule f r) (retagged t)))
      (rules_walk site outward (map (renamed_rule f) rules) (retagged t))
      (decided (acted r t)) (rules_walk site outward rules (acted r t)) (rules_walk site outward rules t)
      (ap (λ b. is_met r.way outward && b) (same_holds (view_on site outward t) r.cond))
      (ap decided (same_acted r t) ∙ same_decided (acted r t))
      (ap (rules_walk site outward (map (renamed_rule f) rules)) (same_acted r t) ∙ same_rules site outward rules (acted r t))
      (same_rules site outward rules t)

  -- Passes

  module _ (names : List (List ℕ)) (c : PfConfig) (site : Site) (p : Packet) where
    same_past : (past : Bool) (x y : Transit) (u : Option Transit) (v : Option Transit) → x ≡ retagged y → u ≡ option_map retagged v
        → cond past (Some x) u ≡ option_map retagged (cond past (Some y) v)
    same_past true x y u v first second = ap Some first
    same_past false x y u v first second = second

    same_behind : (outward : Bool) (nat : Option PfNat) (t : Transit)
        → behind (renamed f names c) site p outward (option_map (renamed_nat f) nat) (retagged t) ≡ option_map retagged (behind c site p outward nat t)
    same_behind outward None t = same_rules site outward c.filter t
    same_behind outward (Some nat) t =
        same_past nat.past (translated_by p outward (renamed_nat f nat) (retagged t)) (translated_by p outward nat t)
        (rules_walk site outward (map (renamed_rule f) c.filter) (translated_by p outward (renamed_nat f nat) (retagged t)))
        (rules_walk site outward c.filter (translated_by p outward nat t))
        (same_translated p outward nat t)
        (ap (rules_walk site outward (map (renamed_rule f) c.filter)) (same_translated p outward nat t) ∙ same_rules site outward c.filter (translated_by p outward nat t))

    same_choice : (outward : Bool) (t : Transit)
        → chosen site outward (translations (renamed f names c) outward) (retagged t) ≡ option_map (renamed_nat f) (chosen site outward (translations c outward) t)
    same_choice true t = same_chosen site true c.nat t
    same_choice false t = same_chosen site false c.rdr t

    same_skipped : (skipped : Bool) (t : Transit) (u v : Option Transit) → u ≡ option_map retagged v → cond skipped (Some (retagged t)) u ≡ option_map retagged (cond skipped (Some t) v)
    same_skipped true t u v same = refl
    same_skipped false t u v same = same

    same_face : (outward : Bool) (t : Transit) → interface_of site outward (retagged t) ≡ interface_of site outward t
    same_face true t = refl
    same_face false t = refl

    same_pass : (outward : Bool) (t : Transit) → pass_walk (renamed f names c) site p outward (retagged t) ≡ option_map retagged (pass_walk c site p outward t)
    same_pass outward t =
        ap (λ face. cond (is_shown face c.skip) (Some (retagged t)) (behind (renamed f names c) site p outward (chosen site outward (translations (renamed f names c) outward) (retagged t)) (retagged t)))
        (same_face outward t)
        ∙ same_skipped (is_shown (interface_of site outward t) c.skip) t
        (behind (renamed f names c) site p outward (chosen site outward (translations (renamed f names c) outward) (retagged t)) (retagged t))
        (behind c site p outward (chosen site outward (translations c outward) t) t)
        (ap (λ nat. behind (renamed f names c) site p outward nat (retagged t)) (same_choice outward t) ∙ same_behind outward (chosen site outward (translations c outward) t) t)

    same_pass_of : (k : Kind) (outward : Bool) (t : Transit) → pass_of (renamed f names c) site p k outward (retagged t) ≡ option_map retagged (pass_of c site p k outward t)
    same_pass_of kinds.New outward t = same_pass outward t
    same_pass_of (kinds.Est r) true t = refl
    same_pass_of (kinds.Est r) false t = refl

    same_onwards : (k : Kind) (exit : Exit) (t : Transit)
        → onwards Some (pass_of (renamed f names c) site p k true) exit (retagged t) ≡ option_map retagged (onwards Some (pass_of c site p k true) exit t)
    same_onwards k Deliver t = refl
    same_onwards k (Out entry) t = same_pass_of k true t
    same_onwards k Lost t = refl

    abbrev routed : PfConfig → Kind → Transit → Option Transit
    routed d k t = onwards Some (pass_of d site p k true) (exit_at site p.entry t.packet.dst) t

    same_routed : (k : Kind) (o : Option Transit) → option_and_then (routed (renamed f names c) k) (option_map retagged o) ≡ option_map retagged (option_and_then (routed c k) o)
    same_routed k None = refl
    same_routed k (Some t) = same_onwards k (exit_at site p.entry t.packet.dst) t

    by_host : (k : Kind) (host : Bool) (x y u v : Option Transit) → x ≡ option_map retagged u → y ≡ option_map retagged v → cond host x y ≡ option_map retagged (cond host u v)
    by_host k true x y u v first second = first
    by_host k false x y u v first second = second

    same_way : (k : Kind) → way_of (renamed f names c) site p k ≡ option_map retagged (way_of c site p k)
    same_way k =
        by_host k (nat_eq p.entry 0)
        (pass_of (renamed f names c) site p k true (entered p)) (option_and_then (routed (renamed f names c) k) (pass_of (renamed f names c) site p k false (entered p)))
        (pass_of c site p k true (entered p)) (option_and_then (routed c k) (pass_of c site p k false (entered p)))
        (same_pass_of k true (entered p))
        (ap (option_and_then (routed (renamed f names c) k)) (same_pass_of k false (entered p)) ∙ same_routed k (pass_of c site p k false (entered p)))

    same_outcome : (k : Kind) (o : Option Transit) → outcome_of k (option_map retagged o) ≡ outcome_of k o
    same_outcome k None = refl
    same_outcome kinds.New (Some t) = refl
    same_outcome (kinds.Est r) (Some t) = refl

    pub same_walk : (k : Kind) → walk (renamed f names c) site p k ≡ walk c site p k
    same_walk k = ap (outcome_of k) (same_way k) ∙ same_outcome k (way_of c site p k)

-- Places are different numbers

pub places_apart : (tags : List ℕ) → IsApart (place_in tags)
places_apart [] m n same = same
places_apart (tag ∷ tags) m n same = by_both (nat_eq m tag) (nat_eq n tag) refl refl (places_apart tags m n) where
  by_both : (a b : Bool) → nat_eq m tag ≡ a → nat_eq n tag ≡ b → (place_in tags m ≡ place_in tags n → m ≡ n) → m ≡ n
  by_both true true first second later = eqb-true m tag first ∙ sym (eqb-true n tag second)
  by_both true false first second later =
      let here : 0 ≡ suc (place_in tags n) = sym (ap (λ b. cond b 0 (suc (place_in tags m))) first) ∙ same ∙ ap (λ b. cond b 0 (suc (place_in tags n))) second in
      absurd (omega (arith, here))
  by_both false true first second later =
      let here : suc (place_in tags m) ≡ 0 = sym (ap (λ b. cond b 0 (suc (place_in tags m))) first) ∙ same ∙ ap (λ b. cond b 0 (suc (place_in tags n))) second in
      absurd (omega (arith, here))
  by_both false false first second later =
      let here : suc (place_in tags m) ≡ suc (place_in tags n) = sym (ap (λ b. cond b 0 (suc (place_in tags m))) first) ∙ same ∙ ap (λ b. cond b 0 (suc (place_in tags n))) second in
      later (omega (arith, here))
