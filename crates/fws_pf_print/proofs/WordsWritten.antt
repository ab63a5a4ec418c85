-- The words of a rule can be written.
use Rattle.std.proofs.Common.{◌≡◌, ℕ, ◌+◌, ◌≤◌, Bool, true, false, cond, ◌&&◌, not, nat_eq, nat_le, Option, Some, None, IfSome, List, [], ◌∷◌, length, codes, refl, sym, ◌∙◌, arith, subst}
use Rattle.std.proofs.lemmas.Bool.{and_parts, leb-true, eqb-true, eqb-false, not-true, cond_both}
use Rattle.std.specs.List.{list_all}
use Rattle.std.specs.Option.{option_map_or}
use Rattle.fws_num.specs.Numbers.{dotted}
use Rattle.fws_iv.specs.declared.iv.Iv.{Iv}
use Rattle.fws_net.specs.declared.condition.Lit.{Lit}
use Rattle.fws_net.specs.declared.outcome.End.{End}
use Rattle.fws_net.specs.declared.site.Site.{Site}
use Rattle.fws_net.specs.SiteLaws.{IsOrderly}
use Rattle.fws_net.specs.SiteSpelling.{net_word}
use Rattle.fws_net.specs.declared.packet.Lang.TheVariants.{Pf}
use Rattle.fws_rules.specs.Names.{interface_name}
use Rattle.fws_pf.specs.declared.config.Way.{Way}
use Rattle.fws_pf.specs.declared.config.Way.TheVariants as ways
use Rattle.fws_print.specs.Sets.{are_flags, is_interface, is_number}
use Rattle.fws_pf_print.specs.Printable.{protocol_tested, tested}
use Rattle.fws_pf_print.specs.PrintedText.{addresses_words, between_words, end_port_words, end_words, front_words, hosts_words, interface_words, network_len, options_words, ports_words, protocol_words, range_words, sides_words, state_words, static_words, tag_words, target_words, tests_flags, tests_hosts, way_words}
use Rattle.fws_pf_print.proofs.Basics.{never}
use Rattle.fws_pf_print.proofs.Conds.{IsDivided, Printed}
use Rattle.fws_pf_print.proofs.Laws.{Laws}
use Rattle.fws_pf_print.proofs.LineWords.{arrow, AreWords, bare, more, none, words_append}
use Rattle.fws_pf_print.proofs.NamesRead.{name_known}
use Rattle.fws_pf_print.proofs.Shapes.{flags_texts, tag_texts, type_texts}
use Rattle.fws_pf_print.proofs.ValuesRead.{address_bare, flags_read, net_bare, number_bare, ports_bare, protocol_bare, tag_bare}

module _ (laws : Laws) where
  interface_written : (site : Site) → IsOrderly site → (set : List Iv) → Printed set (is_interface site set) → AreWords (interface_words site set)
  interface_written site orderly [] h = none
  interface_written site orderly (iv ∷ []) h =
      let both = and_parts (is_number (length site.faces + 1) (iv ∷ [])) (list_all (λ iv. not (nat_eq iv.lo 0)) (iv ∷ [])) (h (λ e. absurd cc)) in
      let p = and_parts (nat_eq iv.lo iv.hi) (nat_le iv.hi (length site.faces + 1)) both.0 in
      let same : iv.lo ≡ iv.hi = eqb-true iv.lo iv.hi p.0 in
      let high : iv.hi ≤ length site.faces + 1 = leb-true iv.hi (length site.faces + 1) p.1 in
      let some = eqb-false iv.lo 0 (not-true (nat_eq iv.lo 0) (and_parts (not (nat_eq iv.lo 0)) true both.1).0) in
      let named = laws.named Pf site orderly in
      let low : 1 ≤ iv.lo = omega (arith, some) in
      let within : iv.lo ≤ length site.faces + 1 = omega (arith, same, high) in
      more (bare refl) (more (name_known (interface_name Pf site iv.lo) (named.plain iv.lo low within) (named.bytes iv.lo low within)).word none)
  interface_written site orderly (iv ∷ other ∷ set) h = never (h (λ e. absurd cc))

  protocol_written : (set : List Iv) → AreWords (protocol_words set)
  protocol_written [] = none
  protocol_written (iv ∷ set) = more (bare refl) (more (bare (protocol_bare laws iv.lo)) none)

  range_written : (iv : Iv) → AreWords (range_words iv)
  range_written iv =
      cond_both (nat_eq iv.lo iv.hi) (dotted iv.lo ∷ []) (option_map_or (λ n. net_word iv.lo n ∷ []) (network_len iv) (between_words iv)) AreWords (λ e. more (bare (address_bare laws iv.lo)) none)
      (λ e. wide (network_len iv))
    where
      wide : (o : Option ℕ) → AreWords (option_map_or (λ n. net_word iv.lo n ∷ []) o (between_words iv))
      wide None = more (bare (address_bare laws iv.lo)) (more (bare refl) (more (bare (address_bare laws iv.hi)) none))
      wide (Some n) = more (bare (net_bare laws iv.lo n)) none

  addresses_written : (set : List Iv) → AreWords (addresses_words set)
  addresses_written [] = more (bare refl) none
  addresses_written (iv ∷ set) = range_written iv

  ports_written : (set : List Iv) → AreWords (ports_words set)
  ports_written [] = none
  ports_written (iv ∷ set) = more (bare refl) (more (bare (ports_bare laws iv)) none)

  hosts_written : (lits : List Lit) → AreWords (hosts_words lits)
  hosts_written lits =
      cond_both (tests_hosts lits) (sides_words lits) (codes "all" ∷ []) AreWords
      (λ e.
      more (bare refl)
      (words_append (addresses_words (tested 2 lits)) _ (addresses_written (tested 2 lits))
      (words_append (ports_words (tested 3 lits)) _ (ports_written (tested 3 lits))
      (more (bare refl) (words_append (addresses_words (tested 4 lits)) _ (addresses_written (tested 4 lits)) (ports_written (tested 5 lits)))))))
      (λ e. more (bare refl) none)

  pub front_written : (site : Site) → IsOrderly site → (lits : List Lit) → IsDivided site lits → AreWords (front_words site lits)
  front_written site orderly lits is =
      words_append (interface_words site (tested 0 lits)) _ (interface_written site orderly (tested 0 lits) is.via) (words_append (protocol_words (tested 1 lits)) _ (protocol_written (tested 1 lits)) (hosts_written lits))

  pub options_written : (site : Site) (lits : List Lit) → IsDivided site lits → AreWords (options_words lits)
  options_written site lits is =
      subst AreWords (sym (is.words ∙ is.options.words))
      (words_append (flags_texts is.options.flags) _ (flags is.options.flags is.options.flags_printed) (words_append (type_texts is.options.type) _ (types is.options.type) (tags is.options.tag)))
    where
      flags : (f : Option (ℕ × ℕ)) → IfSome f (λ f. (nat_eq (protocol_tested lits) 6 && are_flags f.0 f.1) ≡ true) → AreWords (flags_texts f)
      flags None h = none
      flags (Some f) h = more (bare refl) (more (bare (flags_read f.0 f.1 (and_parts (nat_eq (protocol_tested lits) 6) (are_flags f.0 f.1) h).1).word) none)

      types : (i : Option ℕ) → AreWords (type_texts i)
      types None = none
      types (Some i) = more (bare refl) (more (bare (number_bare laws i)) none)

      tags : (k : Option ℕ) → AreWords (tag_texts k)
      tags None = none
      tags (Some k) = more (bare refl) (more (bare (tag_bare laws k)) none)

  pub tag_written : (k : Option ℕ) → AreWords (tag_words k)
  tag_written None = none
  tag_written (Some k) = more (bare refl) (more (bare (tag_bare laws k)) none)

  pub way_written : (way : Way) → AreWords (way_words way)
  way_written ways.Both = none
  way_written ways.Inward = more (bare refl) none
  way_written ways.Outward = more (bare refl) none

  pub state_written : (pass : Bool) (lits : List Lit) → AreWords (state_words pass lits)
  state_written false lits = none
  state_written true lits =
      words_append (cond (tests_flags lits) [] (codes "flags" ∷ codes "any" ∷ [])) _
      (cond_both (tests_flags lits) [] (codes "flags" ∷ codes "any" ∷ []) AreWords (λ e. none) (λ e. more (bare refl) (more (bare refl) none))) (more (bare refl) (more (bare refl) none))

  static_written : (b : Bool) → AreWords (static_words b)
  static_written true = none
  static_written false = more (bare refl) none

  port_written : (p : Option ℕ) → AreWords (end_port_words p)
  port_written None = none
  port_written (Some p) = more (bare refl) (more (bare (number_bare laws p)) none)

  end_written : (e : End) → AreWords (end_words e)
  end_written e =
      cond_both (nat_eq e.len 32) (dotted e.addr ∷ end_port_words e.port) (net_word e.addr e.len ∷ codes "bitmask" ∷ []) AreWords (λ h. more (bare (address_bare laws e.addr)) (port_written e.port))
      (λ h. more (bare (net_bare laws e.addr e.len)) (more (bare refl) none))

  pub target_written : (b : Bool) (to : Option End) → AreWords (target_words b to)
  target_written b None = none
  target_written b (Some e) = more arrow (words_append (end_words e) (static_words b) (end_written e) (static_written b))
