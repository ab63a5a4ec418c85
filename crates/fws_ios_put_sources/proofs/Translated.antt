-- What lists and translations give together.
use Rattle.std.proofs.Common.{◌≡◌, ℕ, suc, ◌+◌, ◌-◌, ◌<◌, ◌≤◌, ◌^◌, true, ◌&&◌, Some, List, [], ◌∷◌, All, refl, ◌∙◌, ap, arith, length, map}
use Rattle.std.proofs.lemmas.Bool.{and_from, lt-ltb}
use Rattle.std.proofs.lemmas.Bool.Decides.{Decides-eqb}
use Rattle.std.proofs.lemmas.List.Elements.{All-cons, All-nil}
use Rattle.std.proofs.lemmas.Map.Made.{AllPairs-from_IsDistinct}
use Rattle.std.specs.List.{list_all, IsDistinct}
use Rattle.std.specs.Option.{option_map_or}
use Rattle.std.specs.Prelude.{nat_eq, nat_lt}
use Rattle.fws_ios.specs.declared.config.IosList.{IosList}
use Rattle.fws_ios.specs.Walk.{first_end, listed_end, outer_end}
use Rattle.fws_ios_print.specs.Printable.{has_entries, is_list_name, is_printed_entry, is_printed_list, is_printed_nat}
use Rattle.fws_ios_put_sources.specs.declared.translations.Sources.{Sources}
use Rattle.fws_ios_put_sources.specs.Lists.{list_name, nat_of, AreAsked, AreListsFrom, AreTranslations}
use Rattle.fws_ios_put_sources.specs.Picking.{place_of, HasSources}
use Rattle.fws_ios_put_sources.specs.Sources.{IsMarked}
use Rattle.fws_net.specs.declared.connection.Kind.TheVariants.{New}
use Rattle.fws_net.specs.declared.outcome.Outcome.{Outcome}
use Rattle.fws_net.specs.declared.outcome.Outcome.TheVariants.{Accept}
use Rattle.fws_net.specs.declared.site.Site.{Site}
use Rattle.fws_num.specs.Numbers.{dotted, AddressesAreDotted, QuadsAreDotted}
use Rattle.fws_tree.specs.Plain.{Plain}
use Rattle.fws_ios_put_sources.proofs.Finding.{all_apart, all_found, distinct_of, found_there, AreDistinct, AreNamed}
use Rattle.fws_ios_put_sources.proofs.Giving.{ends_from, no_outer, source_here, source_none}
use Rattle.fws_ios_put_sources.proofs.Names.{name_printed, names_differ}

lists_named : (site : Site) (t : Plain Outcome) (addrs : List ℕ) (place : ℕ) (given : List ℕ) (ls : List IosList) → AreListsFrom site t addrs place given ls → AreNamed list_name given ls
lists_named site t addrs place [] [] lists = tt
lists_named site t addrs place [] (l ∷ ls) lists = lists
lists_named site t addrs place (a ∷ given) [] lists = lists
lists_named site t addrs place (a ∷ given) (l ∷ ls) lists = (lists.0.fits, lists.0.name, lists_named site t addrs (suc place) given ls lists.1)

lists_printed : AddressesAreDotted → (site : Site) (t : Plain Outcome) (addrs : List ℕ) (place : ℕ) (given : List ℕ) (ls : List IosList) → AreListsFrom site t addrs place given ls
    → list_all is_printed_list ls ≡ true
lists_printed law site t addrs place [] [] lists = refl
lists_printed law site t addrs place [] (l ∷ ls) lists = absurd lists
lists_printed law site t addrs place (a ∷ given) [] lists = absurd lists
lists_printed law site t addrs place (a ∷ given) (l ∷ ls) lists =
    and_from (is_printed_list l) (list_all is_printed_list ls)
    (and_from (is_list_name l.name && has_entries l.entries) (list_all is_printed_entry l.entries)
    (and_from (is_list_name l.name) (has_entries l.entries) (ap is_list_name lists.0.name ∙ name_printed law a) lists.0.entries.some) lists.0.entries.printed)
    (lists_printed law site t addrs (suc place) given ls lists.1)

nats_printed : AddressesAreDotted → (site : Site) (t : Plain Outcome) (addrs : List ℕ) (place : ℕ) (given : List ℕ) (ls : List IosList) → AreListsFrom site t addrs place given ls
    → list_all is_printed_nat (map nat_of given) ≡ true
nats_printed law site t addrs place [] ls lists = refl
nats_printed law site t addrs place (a ∷ given) [] lists = absurd lists
nats_printed law site t addrs place (a ∷ given) (l ∷ ls) lists =
    and_from (is_printed_nat (nat_of a)) (list_all is_printed_nat (map nat_of given))
    (and_from (is_list_name (list_name a)) (nat_lt a (2 ^ 32)) (name_printed law a) (lt-ltb a (2 ^ 32) lists.0.fits))
    (nats_printed law site t addrs (suc place) given ls lists.1)

lists_marked : (site : Site) (t : Plain Outcome) (addrs : List ℕ) (place : ℕ) (given : List ℕ) (ls : List IosList) → AreListsFrom site t addrs place given ls
    → All (λ (l : IosList). IsMarked l.name) ls
lists_marked site t addrs place [] [] lists = All-nil (λ (l : IosList). IsMarked l.name)
lists_marked site t addrs place [] (l ∷ ls) lists = absurd lists
lists_marked site t addrs place (a ∷ given) [] lists = absurd lists
lists_marked site t addrs place (a ∷ given) (l ∷ ls) lists =
    All-cons (λ (f : IosList). IsMarked f.name) l ls (dotted a, lists.0.name) (lists_marked site t addrs (suc place) given ls lists.1)

mapped_length : (given : List ℕ) → length (map nat_of given) ≡ length given
mapped_length [] = refl
mapped_length (a ∷ given) = ap suc (mapped_length given)

few_nats : (n : ℕ) → n < 2 ^ 63 → nat_lt n (2 ^ 64 - 1) ≡ true
few_nats n lt = (let low : n < 2 ^ 64 - 1 = omega arith in lt-ltb n (2 ^ 64 - 1) low)

pub keys_distinct : (keys : List ℕ) → IsDistinct nat_eq keys → AreDistinct keys
keys_distinct keys unique = distinct_of keys (AllPairs-from_IsDistinct Decides-eqb keys unique)

pub translations_told : QuadsAreDotted → AddressesAreDotted → (site : Site) (t : Plain Outcome) (keys : List ℕ) (s : Sources) → AreDistinct keys → length keys < 2 ^ 63
    → HasSources keys t → AreAsked site t keys keys s → AreTranslations site t s
translations_told quads addresses site t keys s distinct few sources asked =
    let named : AreNamed list_name keys s.lists = lists_named site t keys 0 keys s.lists asked.lists in
    record {
      printed_lists = lists_printed addresses site t keys 0 keys s.lists asked.lists;
      printed_nats = ap (list_all is_printed_nat) asked.nats ∙ nats_printed addresses site t keys 0 keys s.lists asked.lists;
      few = ap (λ ns. nat_lt (length ns) (2 ^ 64 - 1)) asked.nats ∙ ap (λ n. nat_lt n (2 ^ 64 - 1)) (mapped_length keys) ∙ few_nats (length keys) few;
      apart = all_apart list_name (names_differ quads) keys s.lists distinct named;
      marked = lists_marked site t keys 0 keys s.lists asked.lists;
      give = λ m x w inside seen e host c nats same.
          ap (λ ns. option_map_or Some (first_end (outer_end m.packet) ns) (first_end (listed_end c site New m) ns)) (nats ∙ asked.nats)
          ∙ ap (λ o. option_map_or Some o (first_end (listed_end c site New m) (map nat_of keys))) (no_outer list_name m.packet keys)
          ∙ ends_from list_name site t keys c m x w inside seen e keys s.lists 0
          (found_there list_name s.lists c.lists (λ a. same (list_name a) (dotted a, refl)) keys s.lists (all_found list_name (names_differ quads) keys s.lists distinct named))
          asked.lists (zero_low (place_of keys w)) (λ j a there is. source_here keys w (sources x (Accept w) e) host j a there (from_zero j (place_of keys w) is))
          (λ le. source_none keys w (sources x (Accept w) e) (low_zero (length keys) (place_of keys w) le));
    }
  where
    zero_low : (n : ℕ) → 0 ≤ n
    zero_low n = omega arith

    from_zero : (j n : ℕ) → 0 + j ≡ n → j ≡ n
    from_zero j n e = omega arith

    low_zero : (j n : ℕ) → 0 + j ≤ n → j ≤ n
    low_zero j n le = omega arith
