-- What is printed of a configuration doesn't change with the numbers of its tags.
use Rattle.std.proofs.Common.{◌≡◌, ℕ, ◌+◌, Bool, true, false, cond, ◌&&◌, ◌||◌, not, nat_eq, nat_le, nat_lt, Option, Some, None, List, [], ◌∷◌, length, map, refl, ap, ◌∙◌}
use Rattle.std.proofs.lemmas.Bool.{and_from, eq-eqb}
use Rattle.std.specs.List.{list_all, list_any}
use Rattle.std.specs.Option.{option_map_or}
use Rattle.fws_iv.specs.declared.iv.Iv.{Iv}
use Rattle.fws_net.specs.declared.condition.Lit.{Lit}
use Rattle.fws_net.specs.declared.condition.Test.{Test}
use Rattle.fws_net.specs.declared.condition.Test.TheVariants.{Src, Dst, Sport, Dport, Proto, Icmp, Flags, AnyFlag, Recv, Xmit, Via, Outward, Est, Tag, Never}
use Rattle.fws_net.specs.declared.outcome.End.{End}
use Rattle.fws_net.specs.declared.site.Site.{Site}
use Rattle.fws_pf.specs.declared.config.PfConfig.{PfConfig}
use Rattle.fws_pf.specs.declared.config.PfNat.{PfNat}
use Rattle.fws_pf.specs.declared.config.PfRule.{PfRule}
use Rattle.fws_pf.specs.Drawn.{is_port_protocol}
use Rattle.fws_pf_put_filter.specs.Filters.{asks_nothing, catches_all, is_both}
use Rattle.fws_print.specs.Sets.{first_number}
use Rattle.fws_pf_print.specs.Printable.{all_tags, are_named, ascend, is_block, is_printable, is_printed_cond, is_printed_end, is_printed_literal, is_printed_port, is_printed_rule, is_printed_test, is_printed_translation, is_translation_test, place_of, place_written, protocol_tested, skips_none, test_set, tested}
use Rattle.fws_pf_put.specs.Renumbered.{ArePrinted, keeps_state, renamed, renamed_cond, renamed_nat, renamed_rule, renamed_test}

module _ (f : ℕ → ℕ) where
  same_place : (t : Test) → place_of (renamed_test f t) ≡ place_of t
  same_place (Tag n) = refl
  same_place (Src set) = refl
  same_place (Dst set) = refl
  same_place (Sport set) = refl
  same_place (Dport set) = refl
  same_place (Proto set) = refl
  same_place (Icmp set) = refl
  same_place (Flags mask want) = refl
  same_place (AnyFlag mask) = refl
  same_place (Recv set) = refl
  same_place (Xmit set) = refl
  same_place (Via set) = refl
  same_place Outward = refl
  same_place Est = refl
  same_place Never = refl

  same_set : (t : Test) → test_set (renamed_test f t) ≡ test_set t
  same_set (Tag n) = refl
  same_set (Src set) = refl
  same_set (Dst set) = refl
  same_set (Sport set) = refl
  same_set (Dport set) = refl
  same_set (Proto set) = refl
  same_set (Icmp set) = refl
  same_set (Flags mask want) = refl
  same_set (AnyFlag mask) = refl
  same_set (Recv set) = refl
  same_set (Xmit set) = refl
  same_set (Via set) = refl
  same_set Outward = refl
  same_set Est = refl
  same_set Never = refl

  same_printed : (site : Site) (protocol : ℕ) (t : Test) → is_printed_test site protocol (renamed_test f t) ≡ is_printed_test site protocol t
  same_printed site protocol (Tag n) = refl
  same_printed site protocol (Src set) = refl
  same_printed site protocol (Dst set) = refl
  same_printed site protocol (Sport set) = refl
  same_printed site protocol (Dport set) = refl
  same_printed site protocol (Proto set) = refl
  same_printed site protocol (Icmp set) = refl
  same_printed site protocol (Flags mask want) = refl
  same_printed site protocol (AnyFlag mask) = refl
  same_printed site protocol (Recv set) = refl
  same_printed site protocol (Xmit set) = refl
  same_printed site protocol (Via set) = refl
  same_printed site protocol Outward = refl
  same_printed site protocol Est = refl
  same_printed site protocol Never = refl

  same_tested : (place : ℕ) (lits : List Lit) → tested place (renamed_cond f lits) ≡ tested place lits
  same_tested place [] = refl
  same_tested place (lit ∷ lits) =
      ap (λ n. cond (nat_eq n place) (test_set (renamed_test f lit.test)) (tested place (renamed_cond f lits))) (same_place lit.test)
      ∙ ap (λ s. cond (nat_eq (place_of lit.test) place) s (tested place (renamed_cond f lits))) (same_set lit.test)
      ∙ ap (λ s. cond (nat_eq (place_of lit.test) place) (test_set lit.test) s) (same_tested place lits)

  same_ascend : (least : ℕ) (lits : List Lit) → ascend least (renamed_cond f lits) ≡ ascend least lits
  same_ascend least [] = refl
  same_ascend least (lit ∷ lits) =
      ap (λ n. nat_le least n && ascend (n + 1) (renamed_cond f lits)) (same_place lit.test)
      ∙ ap (λ b. nat_le least (place_of lit.test) && b) (same_ascend (place_of lit.test + 1) lits)

  same_literals : (site : Site) (protocol : ℕ) (lits : List Lit) → list_all (is_printed_literal site protocol) (renamed_cond f lits) ≡ list_all (is_printed_literal site protocol) lits
  same_literals site protocol [] = refl
  same_literals site protocol (lit ∷ lits) =
      ap (λ b. (not lit.not && b) && list_all (is_printed_literal site protocol) (renamed_cond f lits)) (same_printed site protocol lit.test)
      ∙ ap (λ b. is_printed_literal site protocol lit && b) (same_literals site protocol lits)

  same_cond : (site : Site) (lits : List Lit) → is_printed_cond site (renamed_cond f lits) ≡ is_printed_cond site lits
  same_cond site lits =
      ap (λ b. b && list_all (is_printed_literal site (protocol_tested (renamed_cond f lits))) (renamed_cond f lits)) (same_ascend 0 lits)
      ∙ ap (λ s. ascend 0 lits && list_all (is_printed_literal site (first_number s)) (renamed_cond f lits)) (same_tested 1 lits)
      ∙ ap (λ b. ascend 0 lits && b) (same_literals site (protocol_tested lits) lits)

  -- Rules

  same_rule : (site : Site) (r : PfRule) → is_printed_rule site (renamed_rule f r) ≡ is_printed_rule site r
  same_rule site r = ap (λ b. not r.quick && (cond r.pass r.keep (not r.keep)) && b) (same_cond site r.cond)

  same_kinds : (lits : List Lit) → list_all (λ (lit : Lit). is_translation_test lit.test) (renamed_cond f lits) ≡ list_all (λ (lit : Lit). is_translation_test lit.test) lits
  same_kinds [] = refl
  same_kinds (lit ∷ lits) =
      ap (λ n. (nat_lt n 6 || nat_eq n 8) && list_all (λ (l : Lit). is_translation_test l.test) (renamed_cond f lits)) (same_place lit.test)
      ∙ ap (λ b. is_translation_test lit.test && b) (same_kinds lits)

  same_end : (redirects : Bool) (lits : List Lit) (e : End) → is_printed_end redirects (renamed_cond f lits) e ≡ is_printed_end redirects lits e
  same_end redirects lits e =
      ap (λ s. nat_lt e.addr 4294967296 && cond (nat_eq e.len 32) (option_map_or (λ n. redirects && nat_le n 65535 && is_port_protocol (first_number s)) e.port true)
      (is_block e.len (tested (place_written redirects) (renamed_cond f lits)))) (same_tested 1 lits)
      ∙ ap (λ s. nat_lt e.addr 4294967296 && cond (nat_eq e.len 32) (is_printed_port redirects lits e.port) (is_block e.len s)) (same_tested (place_written redirects) lits)

  same_to : (redirects : Bool) (lits : List Lit) (to : Option End) → option_map_or (is_printed_end redirects (renamed_cond f lits)) to true ≡ option_map_or (is_printed_end redirects lits) to true
  same_to redirects lits None = refl
  same_to redirects lits (Some e) = same_end redirects lits e

  same_translation : (site : Site) (redirects : Bool) (nat : PfNat) → is_printed_translation site redirects (renamed_nat f nat) ≡ is_printed_translation site redirects nat
  same_translation site redirects nat =
      ap (λ b. not nat.past && b && list_all (λ (lit : Lit). is_translation_test lit.test) (renamed_cond f nat.cond) && option_map_or (is_printed_end redirects (renamed_cond f nat.cond)) nat.to true)
      (same_cond site nat.cond)
      ∙ ap (λ b. not nat.past && is_printed_cond site nat.cond && b && option_map_or (is_printed_end redirects (renamed_cond f nat.cond)) nat.to true) (same_kinds nat.cond)
      ∙ ap (λ b. not nat.past && is_printed_cond site nat.cond && list_all (λ (lit : Lit). is_translation_test lit.test) nat.cond && b) (same_to redirects nat.cond nat.to)

  -- Lists

  same_all : {X : Type 0} (p : X → Bool) (g : X → X) → ((x : X) → p (g x) ≡ p x) → (xs : List X) → list_all p (map g xs) ≡ list_all p xs
  same_all p g same [] = refl
  same_all p g same (x ∷ xs) = ap (λ b. b && list_all p (map g xs)) (same x) ∙ ap (λ b. p x && b) (same_all p g same xs)

  pub same_translations : (site : Site) (redirects : Bool) (nats : List PfNat)
      → list_all (is_printed_translation site redirects) (map (renamed_nat f) nats) ≡ list_all (is_printed_translation site redirects) nats
  same_translations site redirects nats = same_all (is_printed_translation site redirects) (renamed_nat f) (same_translation site redirects) nats

  pub same_rules : (site : Site) (rules : List PfRule) → list_all (is_printed_rule site) (map (renamed_rule f) rules) ≡ list_all (is_printed_rule site) rules
  same_rules site rules = same_all (is_printed_rule site) (renamed_rule f) (same_rule site) rules

  pub same_tracks : (rules : List PfRule) → list_all keeps_state (map (renamed_rule f) rules) ≡ list_all keeps_state rules
  same_tracks rules = same_all keeps_state (renamed_rule f) (λ r. refl) rules

  same_any : {X : Type 0} (p : X → Bool) (g : X → X) → ((x : X) → p (g x) ≡ p x) → (xs : List X) → list_any p (map g xs) ≡ list_any p xs
  same_any p g same [] = refl
  same_any p g same (x ∷ xs) = ap (λ b. b || list_any p (map g xs)) (same x) ∙ ap (λ b. p x || b) (same_any p g same xs)

  still_asks_nothing : (lits : List Lit) → asks_nothing (renamed_cond f lits) ≡ asks_nothing lits
  still_asks_nothing [] = refl
  still_asks_nothing (lit ∷ lits) = refl

  pub same_catches : (rules : List PfRule) → list_any catches_all (map (renamed_rule f) rules) ≡ list_any catches_all rules
  same_catches rules = same_any catches_all (renamed_rule f) (λ r. ap (λ b. is_both r.way && b) (still_asks_nothing r.cond)) rules

-- The whole

no_skip : (skip : List Iv) → skip ≡ [] → skips_none skip ≡ true
no_skip skip is = ap skips_none is

pub all_printed : (f : ℕ → ℕ) (names : List (List ℕ)) (c : PfConfig) (known : ℕ) → are_named 0 names ≡ true → length names ≡ known → all_tags (renamed f names c) ≡ Some known
    → (site : Site) → ArePrinted site c → is_printable site (renamed f names c) ≡ true
all_printed f names c known named size numbered site printed =
    and_from (skips_none c.skip && list_all (is_printed_translation site true) (renamed f names c).rdr && list_all (is_printed_translation site false) (renamed f names c).nat
    && list_all (is_printed_rule site) (renamed f names c).filter && are_named 0 names) (option_map_or (nat_eq (length names)) (all_tags (renamed f names c)) false)
    (and_from (skips_none c.skip && list_all (is_printed_translation site true) (renamed f names c).rdr && list_all (is_printed_translation site false) (renamed f names c).nat
    && list_all (is_printed_rule site) (renamed f names c).filter) (are_named 0 names)
    (and_from (skips_none c.skip && list_all (is_printed_translation site true) (renamed f names c).rdr && list_all (is_printed_translation site false) (renamed f names c).nat)
    (list_all (is_printed_rule site) (renamed f names c).filter)
    (and_from (skips_none c.skip && list_all (is_printed_translation site true) (renamed f names c).rdr) (list_all (is_printed_translation site false) (renamed f names c).nat)
    (and_from (skips_none c.skip) (list_all (is_printed_translation site true) (renamed f names c).rdr) (no_skip c.skip printed.skip) (same_translations f site true c.rdr ∙ printed.rdr))
    (same_translations f site false c.nat ∙ printed.nat))
    (same_rules f site c.filter ∙ printed.filter))
    named)
    (ap (λ o. option_map_or (nat_eq (length names)) o false) numbered ∙ eq-eqb (length names) known size)
