-- The lines of access lists are read as these lists.
use Rattle.std.proofs.Common.{◌≡◌, ℕ, Bool, true, false, ◌&&◌, not, Result, Ok, Err, List, [], ◌∷◌, ◌++◌, map, codes, refl, ap, sym, ◌∙◌, append_assoc, append-nil, subst}
use Rattle.std.proofs.lemmas.Bool.{and_from, and_parts, or_parts, not-true, not_from_false, false_from_ne_true, true≢false}
use Rattle.std.proofs.lemmas.List.Folds.{list_all-append}
use Rattle.std.proofs.lemmas.Slice.Eq.{bytes_eq-Decides}
use Rattle.std.specs.List.{list_all, list_any}
use Rattle.std.specs.Str.{bytes_eq}
use Rattle.fws_num.specs.Words.{is_printed, plain_word}
use Rattle.fws_num.specs.Written.{is_plain, spaced}
use Rattle.fws_net.specs.declared.cause.Cause.{Cause}
use Rattle.fws_net.specs.declared.cause.Cause.TheVariants.{Syntax}
use Rattle.fws_net.specs.declared.site.Site.{Site}
use Rattle.fws_net.specs.Reading.{and_then}
use Rattle.fws_ios.specs.declared.config.IosEntry.{IosEntry}
use Rattle.fws_ios.specs.declared.config.IosGroup.{IosGroup}
use Rattle.fws_ios.specs.declared.config.IosList.{IosList}
use Rattle.fws_ios.specs.declared.config.IosNat.{IosNat}
use Rattle.fws_ios.specs.declared.draft.Block.{Block}
use Rattle.fws_ios.specs.declared.draft.Block.TheVariants as blocks
use Rattle.fws_ios.specs.declared.draft.IosDraft.{IosDraft}
use Rattle.fws_ios.specs.declared.draft.Marked.{Marked}
use Rattle.fws_ios.specs.declared.draft.Pool.{Pool}
use Rattle.fws_ios.specs.EntryText.{entry_of}
use Rattle.fws_ios.specs.FileText.{entry_put, remark_line, with_entry, with_last}
use Rattle.fws_ios.specs.Soundness.{are_apart}
use Rattle.fws_ios.specs.Values.{is_number as are_digits}
use Rattle.fws_ios_print.specs.Printable.{has_entries, is_list_name, is_printed_entry, is_printed_list, state_name}
use Rattle.fws_ios_print.specs.PrintedText.{entry_lines, entry_words, inner_line, list_lines, list_words}
use Rattle.fws_ios_print.proofs.Basics.{bytes_same, if_true, if_false, never}
use Rattle.fws_ios_print.proofs.EntriesRead.{entry_known, IsEntry}
use Rattle.fws_ios_print.proofs.Laws.{Laws}
use Rattle.fws_ios_print.proofs.LinesTaken.{AreTaken, IsStep, next_taken, none_taken, plain_sound, taken_append, words_more}

-- Drafts of a text

abbrev pub text_at : Block → List IosList → List IosGroup → List Marked → List (List ℕ) → List IosNat → IosDraft
text_at block lists groups marks pools nats = record { block = block; lists = lists; groups = groups; marks = marks; pools = pools; nats = nats }

-- Names

-- a name of a list is a plain word
pub name_plain : (name : List ℕ) → is_list_name name ≡ true → is_plain name ≡ true
name_plain name h = (and_parts (is_plain name) (not (are_digits name)) (and_parts (is_plain name && not (are_digits name)) (not (bytes_eq name state_name)) h).0).0

-- none of the lists has the name
abbrev pub absent : List ℕ → List IosList → Bool
absent name ls = list_all (λ l. not (bytes_eq l.name name)) ls

turned : (a b : List ℕ) → bytes_eq a b ≡ false → bytes_eq b a ≡ false
turned a b h = false_from_ne_true (bytes_eq b a) (λ e. true≢false (sym ((bytes_eq-Decides a b).1 (sym ((bytes_eq-Decides b a).0 e))) ∙ h))

-- the first entry of a list opens it
first_put : (name : List ℕ) (entry : IosEntry) (ls : List IosList) → absent name ls ≡ true → with_entry name entry ls ≡ ls ++ record { name = name; entries = entry ∷ [] } ∷ []
first_put name entry [] h = refl
first_put name entry (l ∷ ls) h =
    let parts = and_parts (not (bytes_eq l.name name)) (absent name ls) h in
    if_false (bytes_eq l.name name) (with_last entry l ∷ ls) (l ∷ with_entry name entry ls) (not-true (bytes_eq l.name name) parts.0)
    ∙ ap (λ (rest : List IosList). l ∷ rest) (first_put name entry ls parts.1)

-- further entries stand behind the others
next_put : (name : List ℕ) (entry : IosEntry) (done : List IosEntry) (ls : List IosList) → absent name ls ≡ true
    → with_entry name entry (ls ++ record { name = name; entries = done } ∷ []) ≡ ls ++ record { name = name; entries = done ++ entry ∷ [] } ∷ []
next_put name entry done [] h = (let l : IosList = record { name = name; entries = done } in if_true (bytes_eq name name) (with_last entry l ∷ []) (l ∷ with_entry name entry []) (bytes_same name))
next_put name entry done (l ∷ ls) h =
    let parts = and_parts (not (bytes_eq l.name name)) (absent name ls) h in
    let own : IosList = record { name = name; entries = done } in
    if_false (bytes_eq l.name name) (with_last entry l ∷ (ls ++ own ∷ [])) (l ∷ with_entry name entry (ls ++ own ∷ [])) (not-true (bytes_eq l.name name) parts.0)
    ∙ ap (λ (rest : List IosList). l ∷ rest) (next_put name entry done ls parts.1)

module _ (laws : Laws) (site : Site) (defined pools : List Pool) (groups : List IosGroup) (marks : List Marked) (names : List (List ℕ)) (nats : List IosNat) where
  abbrev with_lists : Block → List IosList → IosDraft
  with_lists block ls = text_at block ls groups marks names nats

  -- an entry of the list that is open
  entry_step : (name : List ℕ) (ls next : List IosList) (words : List (List ℕ)) (entry : IosEntry) (is : IsEntry laws words entry) → with_entry name entry ls ≡ next
      → IsStep site defined true (is.first ∷ is.others) pools (with_lists (blocks.List name true) ls) pools (with_lists (blocks.List name true) next)
  entry_step name ls next words entry is put n =
      let d = with_lists (blocks.List name true) ls in
      let ws = map (plain_word n) (is.first ∷ is.others) in (
        if_false (bytes_eq is.first (codes "remark") && list_all is_printed is.first) (remark_line (map (plain_word n) is.others) d) (and_then (entry_of true true ws) (entry_put name d))
            (ap (λ b. b && list_all is_printed is.first) is.remark)
            ∙ ap (λ o. and_then o (entry_put name d)) (is.made_of n)
            ∙ ap (λ ls. Ok (with_lists (blocks.List name true) ls)) put,
        refl,
      )

  entry_taken : (name : List ℕ) (ls next last : List IosList) (entry : IosEntry) (lines : List (List ℕ)) → is_printed_entry entry ≡ true → with_entry name entry ls ≡ next
      → AreTaken site defined pools (with_lists (blocks.List name true) next) lines pools (with_lists (blocks.List name true) last)
      → AreTaken site defined pools (with_lists (blocks.List name true) ls) (inner_line (entry_words entry) ∷ lines) pools (with_lists (blocks.List name true) last)
  entry_taken name ls next last entry lines h put later =
      let is = entry_known laws entry h in
      subst (λ (words : List (List ℕ)). AreTaken site defined pools (with_lists (blocks.List name true) ls) (inner_line words ∷ lines) pools (with_lists (blocks.List name true) last)) (sym is.divides)
      (next_taken true is.first is.others is.plain is.mark (entry_step name ls next (entry_words entry) entry is put) later)

  -- entries behind others
  entries_taken : (name : List ℕ) (ls : List IosList) (done entries : List IosEntry) → absent name ls ≡ true → list_all is_printed_entry entries ≡ true
      → AreTaken site defined pools (with_lists (blocks.List name true) (ls ++ record { name = name; entries = done } ∷ [])) (entry_lines entries) pools
      (with_lists (blocks.List name true) (ls ++ record { name = name; entries = done ++ entries } ∷ []))
  entries_taken name ls done [] h printed =
      subst
      (λ (es : List IosEntry). AreTaken site defined pools (with_lists (blocks.List name true) (ls ++ record { name = name; entries = done } ∷ [])) [] pools
      (with_lists (blocks.List name true) (ls ++ record { name = name; entries = es } ∷ [])))
      (sym (append-nil done)) none_taken
  entries_taken name ls done (entry ∷ entries) h printed =
      let parts = and_parts (is_printed_entry entry) (list_all is_printed_entry entries) printed in
      let at : List IosEntry → List IosList = λ es. ls ++ record { name = name; entries = es } ∷ [] in
      entry_taken name (at done) (at (done ++ entry ∷ [])) (at (done ++ entry ∷ entries)) entry (entry_lines entries) parts.0 (next_put name entry done ls h)
      (subst (λ (es : List IosEntry). AreTaken site defined pools (with_lists (blocks.List name true) (at (done ++ entry ∷ []))) (entry_lines entries) pools (with_lists (blocks.List name true) (at es)))
      (append_assoc done (entry ∷ []) entries) (entries_taken name ls (done ++ entry ∷ []) entries h parts.1))

  all_entries_taken : (name : List ℕ) (ls : List IosList) (entries : List IosEntry) → absent name ls ≡ true → has_entries entries ≡ true → list_all is_printed_entry entries ≡ true
      → AreTaken site defined pools (with_lists (blocks.List name true) ls) (entry_lines entries) pools (with_lists (blocks.List name true) (ls ++ record { name = name; entries = entries } ∷ []))
  all_entries_taken name ls [] h some printed = never some
  all_entries_taken name ls (entry ∷ entries) h some printed =
      let parts = and_parts (is_printed_entry entry) (list_all is_printed_entry entries) printed in
      let at : List IosEntry → List IosList = λ es. ls ++ record { name = name; entries = es } ∷ [] in
      entry_taken name ls (at (entry ∷ [])) (at (entry ∷ entries)) entry (entry_lines entries) parts.0 (first_put name entry ls h) (entries_taken name ls (entry ∷ []) entries h parts.1)

  -- a list is opened
  opening_step : (b : Block) (name : List ℕ) (ls : List IosList) → is_plain name ≡ true
      → IsStep site defined false (list_words name) pools (with_lists b ls) pools (with_lists (blocks.List name true) ls)
  opening_step b name ls plain n =
      (if_true (list_all is_printed name) (let x : Result IosDraft Cause = Ok (with_lists (blocks.List name true) ls) in x) (Err Syntax) (plain_sound name plain), refl)

  list_taken : (b : Block) (ls : List IosList) (l : IosList) (lines : List (List ℕ)) (e : IosDraft) → is_printed_list l ≡ true → absent l.name ls ≡ true
      → AreTaken site defined pools (with_lists (blocks.List l.name true) (ls ++ l ∷ [])) lines pools e
      → AreTaken site defined pools (with_lists b ls) (spaced (list_words l.name) ∷ (entry_lines l.entries ++ lines)) pools e
  list_taken b ls l lines e h off later =
      let p2 = and_parts (is_list_name l.name && has_entries l.entries) (list_all is_printed_entry l.entries) h in
      let p1 = and_parts (is_list_name l.name) (has_entries l.entries) p2.0 in
      let plain = name_plain l.name p1.0 in
      let begun = with_lists (blocks.List l.name true) ls in
      let full = with_lists (blocks.List l.name true) (ls ++ l ∷ []) in
      next_taken false (codes "ip") (codes "access-list" ∷ codes "extended" ∷ l.name ∷ [])
      (words_more (codes "ip") (codes "access-list" ∷ codes "extended" ∷ l.name ∷ []) refl
      (words_more (codes "access-list") (codes "extended" ∷ l.name ∷ []) refl (words_more (codes "extended") (l.name ∷ []) refl (words_more l.name [] plain refl))))
      refl (opening_step b l.name ls plain)
      (taken_append site defined pools pools pools begun full e (entry_lines l.entries) lines (all_entries_taken l.name ls l.entries off p1.1 p2.1) later)

  -- lists that differ in their names from those ahead of them
  abbrev pub all_absent : List IosList → List IosList → Bool
  all_absent ahead ls = list_all (λ l. absent l.name ahead) ls

  next_absent : (ahead : List IosList) (l : IosList) (ls : List IosList) → all_absent ahead ls ≡ true → list_any (λ other. bytes_eq other.name l.name) ls ≡ false → all_absent (ahead ++ l ∷ []) ls ≡ true
  next_absent ahead l [] h off = refl
  next_absent ahead l (m ∷ ls) h off =
      let parts = and_parts (absent m.name ahead) (all_absent ahead ls) h in
      let others = or_parts (bytes_eq m.name l.name) (list_any (λ other. bytes_eq other.name l.name) ls) off in
      and_from (absent m.name (ahead ++ l ∷ [])) (all_absent (ahead ++ l ∷ []) ls)
      (list_all-append (λ (x : IosList). not (bytes_eq x.name m.name)) ahead (l ∷ [])
      ∙ and_from (absent m.name ahead) (absent m.name (l ∷ [])) parts.0 (and_from (not (bytes_eq l.name m.name)) true (not_from_false (bytes_eq l.name m.name) (turned m.name l.name others.0)) refl))
      (next_absent ahead l ls parts.1 others.1)

  -- where the lists have been read
  pub record AreListed (b : Block) (ahead ls : List IosList) : Type 0 where
    pub block : Block
    pub taken : AreTaken site defined pools (with_lists b ahead) (list_lines ls) pools (with_lists block (ahead ++ ls))

  pub lists_taken : (b : Block) (ahead ls : List IosList) → list_all is_printed_list ls ≡ true → are_apart ls ≡ true → all_absent ahead ls ≡ true → AreListed b ahead ls
  lists_taken b ahead [] h apart off = record {
    block = b;
    taken = subst (λ (ls : List IosList). AreTaken site defined pools (with_lists b ahead) [] pools (with_lists b ls)) (sym (append-nil ahead)) none_taken;
  }
  lists_taken b ahead (l ∷ ls) h apart off =
      let p = and_parts (is_printed_list l) (list_all is_printed_list ls) h in
      let a = and_parts (not (list_any (λ other. bytes_eq other.name l.name) ls)) (are_apart ls) apart in
      let o = and_parts (absent l.name ahead) (all_absent ahead ls) off in
      let later = lists_taken (blocks.List l.name true) (ahead ++ l ∷ []) ls p.1 a.1 (next_absent ahead l ls o.1 (not-true (list_any (λ other. bytes_eq other.name l.name) ls) a.0)) in
      record {
        block = later.block;
        taken = list_taken b ahead l (list_lines ls) (with_lists later.block (ahead ++ l ∷ ls)) p.0 o.0
            (subst (λ (all : List IosList). AreTaken site defined pools (with_lists (blocks.List l.name true) (ahead ++ l ∷ [])) (list_lines ls) pools (with_lists later.block all)) (append_assoc ahead (l ∷ []) ls)
            later.taken);
      }
