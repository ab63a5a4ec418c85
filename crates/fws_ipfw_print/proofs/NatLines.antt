-- The lines of instances are read as these, ahead of the rules that name them.
use Rattle.std.proofs.Common.{◌≡◌, ◌≢◌, ℕ, ◌^◌, ◌<◌, ◌≤◌, Bool, true, false, cond, ◌&&◌, ◌||◌, not, nat_eq, nat_le, nat_lt, Some, None, option_map, Ok, Err, List, [], ◌∷◌, ◌++◌, map, length, codes, decimal, refl, ap, sym, ◌∙◌, append_assoc, append-nil, arith, inl, inr, subst}
use Rattle.std.proofs.lemmas.Bool.{and_from, and_parts, or_from, or_cases, or_parts, leb-true, ltb-true, eqb-true, eqb-false, ne_eqb, not-true, not_from_false}
use Rattle.std.proofs.lemmas.List.{map-append}
use Rattle.std.proofs.lemmas.List.Folds.{list_any-append}
use Rattle.std.specs.List.{list_all}
use Rattle.std.specs.Option.{option_map_or}
use Rattle.fws_num.specs.declared.word.Word.{Word}
use Rattle.fws_num.specs.Written.{spaced}
use Rattle.fws_net.specs.declared.cause.Cause.TheVariants.{Syntax}
use Rattle.fws_net.specs.declared.site.Site.{Site}
use Rattle.fws_net.specs.Reading.{and_then}
use Rattle.fws_net.specs.SiteLaws.{IsOrderly}
use Rattle.fws_ipfw.specs.declared.config.IpfwAct.{IpfwAct}
use Rattle.fws_ipfw.specs.declared.config.IpfwAct.TheVariants as acts
use Rattle.fws_ipfw.specs.declared.config.IpfwNat.{IpfwNat}
use Rattle.fws_ipfw.specs.declared.draft.Defined.{Defined}
use Rattle.fws_ipfw.specs.declared.draft.IpfwDraft.{IpfwDraft}
use Rattle.fws_ipfw.specs.FileText.{config_line, fresh_number, has_nat, redirects_at as defined_redirects, redirects_named as named_redirects, redirects_of, with_defined, with_nat}
use Rattle.fws_ipfw.specs.NatText.{nat_of}
use Rattle.fws_ipfw.specs.RuleText.{is_defined}
use Rattle.fws_ipfw.specs.Soundness.{are_apart}
use Rattle.fws_ipfw.specs.Values.{counted}
use Rattle.fws_ipfw_print.specs.Printable.{all_redirects, is_printable, is_printed_act, is_printed_cond, is_printed_nat, is_printed_rule, is_printed_tag, redirects_at, redirects_named, is_printed_redirect}
use Rattle.fws_ipfw_print.specs.PrintedText.{name_word, nat_lines, nat_words}
use Rattle.fws_ipfw_print.proofs.Basics.{if_false, never}
use Rattle.fws_ipfw_print.proofs.Laws.{Laws}
use Rattle.fws_ipfw_print.proofs.LinesTaken.{AreTaken, comment_taken, Defines, IsRead, next_taken, none_taken, sound_at, text_at}
use Rattle.fws_ipfw_print.proofs.LineWords.{is_writable, word_at, word_judged}
use Rattle.fws_ipfw_print.proofs.NatsRead.{NatRead, nat_read, nat_texts}
use Rattle.fws_ipfw_print.proofs.Tame.{is_tame, more, number_tame, tames_same, tames_writable}
use Rattle.fws_ipfw_print.proofs.ValuesRead.{counted_read}

-- Instances as they are defined ahead

abbrev pub def_of : IpfwNat → Defined
def_of nat = record { number = nat.number; redirects = length nat.redirects }

abbrev pub defs : List IpfwNat → List Defined
defs nats = map def_of nats

pub defined_same : (nats : List IpfwNat) (n : ℕ) → is_defined (defs nats) n ≡ has_nat nats n
defined_same [] n = refl
defined_same (nat ∷ nats) n = ap (λ b. nat_eq nat.number n || b) (defined_same nats n)

redirects_same : (nats : List IpfwNat) (n : ℕ) → defined_redirects (defs nats) n ≡ redirects_at nats n
redirects_same [] n = refl
redirects_same (nat ∷ nats) n = ap (λ k. cond (nat_eq nat.number n) (length nat.redirects) k) (redirects_same nats n)

pub named_same : (nats : List IpfwNat) (act : IpfwAct) → named_redirects (defs nats) act ≡ redirects_named nats act
named_same nats acts.Allow = refl
named_same nats acts.Deny = refl
named_same nats acts.Count = refl
named_same nats (acts.Skip n) = refl
named_same nats acts.Check = refl
named_same nats (acts.Nat n) = redirects_same nats n

-- an instance that is there has a number that is read
pub number_within : (nats : List IpfwNat) (n : ℕ) → list_all is_printed_nat nats ≡ true → has_nat nats n ≡ true → (1 ≤ n) × (n ≤ 65535)
number_within [] n h k = never k
number_within (nat ∷ nats) n h k =
    let parts = and_parts (is_printed_nat nat) (list_all is_printed_nat nats) h in
    elim (or_cases (nat_eq nat.number n) (has_nat nats n) k) [
      | inl e ↦
          (let same : nat.number ≡ n = eqb-true nat.number n e in
          let last = and_parts (nat_lt 0 nat.number && nat_le nat.number 65535 && nat_lt nat.alias (2 ^ 32)) (list_all is_printed_redirect nat.redirects) parts.0 in
          let third = and_parts (nat_lt 0 nat.number && nat_le nat.number 65535) (nat_lt nat.alias (2 ^ 32)) last.0 in
          let first = and_parts (nat_lt 0 nat.number) (nat_le nat.number 65535) third.0 in
          let low : 0 < nat.number = ltb-true 0 nat.number first.0 in
          let high : nat.number ≤ 65535 = leb-true nat.number 65535 first.1 in
          (omega arith, omega arith))
      | inr e ↦ number_within nats n parts.1 e
    ]

-- no instance of the first list has the number of one of the second
abbrev pub are_others : List IpfwNat → List IpfwNat → Bool
are_others seen nats = list_all (λ nat. not (has_nat seen nat.number)) nats

turned : (a b : ℕ) → nat_eq a b ≡ false → nat_eq b a ≡ false
turned a b h = (let other : a ≢ b = eqb-false a b h in ne_eqb b a (λ e. other (sym e)))

others_more : (seen : List IpfwNat) (nat : IpfwNat) (nats : List IpfwNat) → are_others seen nats ≡ true → has_nat nats nat.number ≡ false → are_others (seen ++ nat ∷ []) nats ≡ true
others_more seen nat [] h k = refl
others_more seen nat (next ∷ nats) h k =
    let parts = and_parts (not (has_nat seen next.number)) (are_others seen nats) h in
    let apart = or_parts (nat_eq next.number nat.number) (has_nat nats nat.number) k in
    and_from (not (has_nat (seen ++ nat ∷ []) next.number)) (are_others (seen ++ nat ∷ []) nats)
    (not_from_false (has_nat (seen ++ nat ∷ []) next.number)
    (list_any-append (λ x. nat_eq x.number next.number) seen (nat ∷ [])
    ∙ or_from (has_nat seen next.number) (nat_eq nat.number next.number || false) (not-true (has_nat seen next.number) parts.0)
    (or_from (nat_eq nat.number next.number) false (turned next.number nat.number apart.0) refl)))
    (others_more seen nat nats parts.1 apart.1)

-- Drafts behind instances

unfoldable pub nats_after : IpfwDraft → List IpfwNat → IpfwDraft
nats_after d [] = d
nats_after d (nat ∷ nats) = nats_after (with_nat nat d) nats

pub record NatsKept (d : IpfwDraft) (nats : List IpfwNat) : Type 0 where
  pub nats_are : (nats_after d nats).nats ≡ d.nats ++ nats
  pub rules_are : (nats_after d nats).rules ≡ d.rules
  pub redirects_are : (nats_after d nats).redirects ≡ d.redirects

pub nats_kept : (d : IpfwDraft) (nats : List IpfwNat) → NatsKept d nats
unfolding nats_after
nats_kept d [] = record { nats_are = sym (append-nil d.nats); rules_are = refl; redirects_are = refl }
nats_kept d (nat ∷ nats) =
    let k = nats_kept (with_nat nat d) nats in
    record { nats_are = k.nats_are ∙ append_assoc d.nats (nat ∷ []) nats; rules_are = k.rules_are; redirects_are = k.redirects_are }

module _ (laws : Laws) (site : Site) (orderly : IsOrderly site) (known : List Defined) where
  -- A line of an instance

  nat_number : (nat : IpfwNat) → NatRead laws site nat → counted 65535 (decimal nat.number) ≡ Some nat.number
  nat_number nat is = counted_read laws nat.number 65535 is.some is.within (omega arith)

  nat_line_read : (nat : IpfwNat) (d : IpfwDraft) → NatRead laws site nat → has_nat d.nats nat.number ≡ false
      → IsRead site known (codes "nat" ∷ decimal nat.number ∷ codes "config" ∷ nat_texts laws site nat) d (with_nat nat d)
  nat_line_read nat d is new m =
      let texts = nat_texts laws site nat in
      let rest = map (word_at m) (codes "config" ∷ texts) in
      let writable = (and_parts (is_writable (decimal nat.number)) _ (number_tame laws nat.number)).0 in
      word_judged m (decimal nat.number) (λ text. and_then (fresh_number text d) (λ n. config_line site n rest d)) writable
      ∙ ap (λ o. and_then (option_map_or (λ n. cond (has_nat d.nats n) (Err Syntax) (Ok n)) o (Err Syntax)) (λ n. config_line site n rest d)) (nat_number nat is)
      ∙ ap (λ b. and_then (cond b (Err Syntax) (Ok nat.number)) (λ n. config_line site n rest d)) new
      ∙ ap (λ o. and_then o (λ nat. Ok (with_nat nat d))) (is.read_back m)

  nat_line_defines : (nat : IpfwNat) (before : List Defined) → NatRead laws site nat → is_defined before nat.number ≡ false
      → Defines site (codes "nat" ∷ decimal nat.number ∷ codes "config" ∷ nat_texts laws site nat) before (before ++ def_of nat ∷ [])
  nat_line_defines nat before is new m =
      let ws = map (word_at m) (nat_texts laws site nat) in
      let b : Word = word_at m (decimal nat.number) in
      let make : ℕ → Defined = λ n. record { number = n; redirects = redirects_of (nat_of site n ws) } in
      let writable = (and_parts (is_writable (decimal nat.number)) _ (number_tame laws nat.number)).0 in
      ap (λ t. option_map_or (λ each. with_defined each before) (cond (t && true) (option_map make (counted 65535 b.text)) None) before) (sound_at m (decimal nat.number) writable)
      ∙ ap (λ o. option_map_or (λ each. with_defined each before) (option_map make o) before) (ap (counted 65535) (text_at m (decimal nat.number)) ∙ nat_number nat is)
      ∙ ap (λ k. (let each : Defined = record { number = nat.number; redirects = k } in with_defined each before)) (ap redirects_of (is.read_back m))
      ∙ if_false (is_defined before nat.number) before (before ++ def_of nat ∷ []) new

  nat_words_shown : (nat : IpfwNat) → NatRead laws site nat → list_all is_tame (codes "nat" ∷ decimal nat.number ∷ codes "config" ∷ nat_texts laws site nat) ≡ true
  nat_words_shown nat is =
      more (codes "nat") (decimal nat.number ∷ codes "config" ∷ nat_texts laws site nat) refl
      (more (decimal nat.number) (codes "config" ∷ nat_texts laws site nat) (number_tame laws nat.number) (more (codes "config") (nat_texts laws site nat) refl is.tame))

  nats_taken : (nats : List IpfwNat) (d : IpfwDraft) → list_all is_printed_nat nats ≡ true → are_apart nats ≡ true → are_others d.nats nats ≡ true
      → AreTaken site known (defs d.nats) d (map (λ nat. spaced (nat_words nat)) nats) (defs (d.nats ++ nats)) (nats_after d nats)
  unfolding nats_after
  nats_taken [] d printed apart others = subst (λ (k : List IpfwNat). AreTaken site known (defs d.nats) d [] (defs k) d) (sym (append-nil d.nats)) none_taken
  nats_taken (nat ∷ nats) d printed apart others =
      let each = and_parts (is_printed_nat nat) (list_all is_printed_nat nats) printed in
      let single = and_parts (not (has_nat nats nat.number)) (are_apart nats) apart in
      let new = and_parts (not (has_nat d.nats nat.number)) (are_others d.nats nats) others in
      let fresh : has_nat d.nats nat.number ≡ false = not-true (has_nat d.nats nat.number) new.0 in
      let is = nat_read laws site nat each.0 in
      let texts = decimal nat.number ∷ codes "config" ∷ nat_texts laws site nat in
      let tame = nat_words_shown nat is in
      let later = nats_taken nats (with_nat nat d) each.1 single.1 (others_more d.nats nat nats new.1 (not-true (has_nat nats nat.number) single.0)) in
      let rest = map (λ nat. spaced (nat_words nat)) nats in
      let more_known : defs (d.nats ++ nat ∷ []) ≡ defs d.nats ++ def_of nat ∷ [] = map-append def_of d.nats (nat ∷ []) in
      let from : AreTaken site known (defs d.nats ++ def_of nat ∷ []) (with_nat nat d) rest (defs (d.nats ++ nat ∷ nats)) (nats_after (with_nat nat d) nats) =
      subst (λ (k : List IpfwNat). AreTaken site known (defs d.nats ++ def_of nat ∷ []) (with_nat nat d) rest (defs k) (nats_after (with_nat nat d) nats)) (append_assoc d.nats (nat ∷ []) nats)
      (subst (λ (k : List Defined). AreTaken site known k (with_nat nat d) rest (defs (d.nats ++ nat ∷ [] ++ nats)) (nats_after (with_nat nat d) nats)) more_known later) in
      let taken : AreTaken site known (defs d.nats) d (spaced (map name_word (codes "nat" ∷ texts)) ∷ rest) (defs (d.nats ++ nat ∷ nats)) (nats_after (with_nat nat d) nats) =
      next_taken (codes "nat") texts (tames_writable (codes "nat" ∷ texts) tame) (nat_line_defines nat (defs d.nats) is (defined_same d.nats nat.number ∙ fresh)) (nat_line_read nat d is fresh) from in
      subst (λ (ws : List (List ℕ)). AreTaken site known (defs d.nats) d (spaced ws ∷ rest) (defs (d.nats ++ nat ∷ nats)) (nats_after (with_nat nat d) nats)) (tames_same (codes "nat" ∷ texts) tame) taken

  -- the instances behind their comment
  pub nat_lines_taken : (nats : List IpfwNat) (d : IpfwDraft) → list_all is_printed_nat nats ≡ true → are_apart nats ≡ true → are_others d.nats nats ≡ true
      → AreTaken site known (defs d.nats) d (nat_lines nats) (defs (d.nats ++ nats)) (nats_after d nats)
  unfolding nats_after
  nat_lines_taken [] d printed apart others = nats_taken [] d printed apart others
  nat_lines_taken (nat ∷ nats) d printed apart others = comment_taken refl (nats_taken (nat ∷ nats) d printed apart others)
