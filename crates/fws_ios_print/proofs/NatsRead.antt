-- The lines of translations are read as these translations, and their pools are found.
use Rattle.std.proofs.Common.{◌≡◌, ◌≢◌, ℕ, ◌+◌, ◌^◌, ◌<◌, ◌≤◌, Bool, true, false, cond, nat_eq, nat_lt, Some, None, is_some, Result, Ok, Err, List, [], ◌∷◌, ◌++◌, map, length, codes, refl, ap, sym, ◌∙◌, append_assoc, append-nil, arith, subst}
use Rattle.std.proofs.lemmas.Bool.{and_parts, or_from, or_parts, ltb-true, false_from_ne_true, eq-eqb}
use Rattle.std.proofs.lemmas.Fmt.{decimal_injective}
use Rattle.std.proofs.lemmas.Slice.Eq.{bytes_eq-Decides}
use Rattle.std.specs.List.{find, list_all}
use Rattle.std.specs.Option.{option_map_or}
use Rattle.std.specs.Str.{bytes_eq}
use Rattle.fws_num.specs.Numbers.{dotted}
use Rattle.fws_num.specs.Words.{is_printed, plain_word}
use Rattle.fws_num.specs.Written.{is_plain, spaced}
use Rattle.fws_net.specs.declared.cause.Cause.{Cause}
use Rattle.fws_net.specs.declared.cause.Cause.TheVariants.{Syntax, LeftOut, NoName}
use Rattle.fws_net.specs.declared.site.Site.{Site}
use Rattle.fws_net.specs.Causes.{words_read}
use Rattle.fws_net.specs.Reading.{and_then}
use Rattle.fws_ios.specs.declared.config.IosGroup.{IosGroup}
use Rattle.fws_ios.specs.declared.config.IosList.{IosList}
use Rattle.fws_ios.specs.declared.config.IosNat.{IosNat}
use Rattle.fws_ios.specs.declared.config.IosNat.TheVariants.{Static, List as Listed}
use Rattle.fws_ios.specs.declared.draft.Block.{Block}
use Rattle.fws_ios.specs.declared.draft.Block.TheVariants as blocks
use Rattle.fws_ios.specs.declared.draft.IosDraft.{IosDraft}
use Rattle.fws_ios.specs.declared.draft.Marked.{Marked}
use Rattle.fws_ios.specs.declared.draft.NatDraft.{NatDraft}
use Rattle.fws_ios.specs.declared.draft.NatExpects.TheVariants as expect
use Rattle.fws_ios.specs.declared.draft.Pool.{Pool}
use Rattle.fws_ios.specs.declared.draft.PoolExpects.{PoolExpects}
use Rattle.fws_ios.specs.declared.draft.PoolExpects.TheVariants as pools
use Rattle.fws_ios.specs.FileText.{has_pool, pool_behind_name, with_defined, with_nat, with_pool}
use Rattle.fws_ios.specs.NatText.{fresh_nat, is_whole_pool, nat_made, nat_of, nat_step, pool_checked, pool_named, pool_step, with_address}
use Rattle.fws_ios_print.specs.Printable.{is_list_name, is_printed_nat}
use Rattle.fws_ios_print.specs.PrintedText.{nat_words, nats_lines, pool_name, pool_words}
use Rattle.fws_ios_print.proofs.Basics.{if_true, if_false, never}
use Rattle.fws_ios_print.proofs.Laws.{Laws}
use Rattle.fws_ios_print.proofs.LinesTaken.{AreTaken, IsStep, next_taken, none_taken, plain_sound, words_more}
use Rattle.fws_ios_print.proofs.ListsRead.{name_plain, text_at}
use Rattle.fws_ios_print.proofs.ValuesRead.{address_plain, pool_plain}

-- Pools

abbrev pool : ℕ → ℕ → Pool
pool n addr = record { name = pool_name n; addr = addr }

-- the pools of translations from this place on, and their names
abbrev pub pools_from : ℕ → List IosNat → List Pool
pools_from n [] = []
pools_from n (Listed name addr ∷ nats) = pool n addr ∷ pools_from (n + 1) nats
pools_from n (Static proto local global ∷ nats) = pools_from (n + 1) nats

abbrev pub names_from : ℕ → List IosNat → List (List ℕ)
names_from n [] = []
names_from n (nat ∷ nats) = pool_name n ∷ names_from (n + 1) nats

-- pools at other places have other names
other_name : (m n : ℕ) → m < 2 ^ 64 → n < 2 ^ 64 → m ≢ n → bytes_eq (pool_name m) (pool_name n) ≡ false
other_name m n h k other =
    false_from_ne_true (bytes_eq (pool_name m) (pool_name n))
    (λ e. other (decimal_injective m n h k (ap without_first ((bytes_eq-Decides (pool_name m) (pool_name n)).0 e))))
  where
    without_first : List ℕ → List ℕ
    without_first [] = []
    without_first (c ∷ cs) = cs

-- no pool has the name of one from this place on
abbrev NoPools : List Pool → ℕ → Type 0
NoPools ps n = (m : ℕ) → n ≤ m → m < 2 ^ 64 → pool_named (pool_name m) ps ≡ None

abbrev NoNames : List (List ℕ) → ℕ → Type 0
NoNames names n = (m : ℕ) → n ≤ m → m < 2 ^ 64 → has_pool names (pool_name m) ≡ false

find_behind : (p : Pool → Bool) (xs ys : List Pool) → find p xs ≡ None → find p (xs ++ ys) ≡ find p ys
find_behind p [] ys h = refl
find_behind p (x ∷ xs) ys h = by_test (p x) h (find_behind p xs ys)
  where
    by_test : (b : Bool) → cond b (Some x) (find p xs) ≡ None → (find p xs ≡ None → find p (xs ++ ys) ≡ find p ys) → cond b (Some x) (find p (xs ++ ys)) ≡ find p ys
    by_test true h rest = absurd cc
    by_test false h rest = rest h

next_pools : (ps : List Pool) (n addr : ℕ) → n < 2 ^ 64 → NoPools ps n → NoPools (ps ++ pool n addr ∷ []) (n + 1)
next_pools ps n addr short h m low high =
    find_behind (λ x. bytes_eq x.name (pool_name m)) ps (pool n addr ∷ []) (h m (omega arith) high)
    ∙ if_false (bytes_eq (pool_name n) (pool_name m)) (Some (pool n addr)) None (other_name n m short high (λ e. omega arith))

next_names : (names : List (List ℕ)) (n : ℕ) → n < 2 ^ 64 → NoNames names n → NoNames (names ++ pool_name n ∷ []) (n + 1)
next_names [] n short h m low high = or_from (bytes_eq (pool_name m) (pool_name n)) false (other_name m n high short (λ e. omega arith)) refl
next_names (name ∷ names) n short h m low high =
    let parts : (k : ℕ) → n ≤ k → k < 2 ^ 64 → (bytes_eq (pool_name k) name ≡ false) × (has_pool names (pool_name k) ≡ false) = λ k a b. or_parts (bytes_eq (pool_name k) name) (has_pool names (pool_name k)) (h k a b) in
    or_from (bytes_eq (pool_name m) name) (has_pool (names ++ pool_name n ∷ []) (pool_name m)) (parts m (omega arith) high).0
    (next_names names n short (λ k a b. (parts k a b).1) m low high)

module _ (laws : Laws) (site : Site) (defined : List Pool) (lists : List IosList) (groups : List IosGroup) (marks : List Marked) where
  abbrev with_nats : Block → List (List ℕ) → List IosNat → IosDraft
  with_nats block names nats = text_at block lists groups marks names nats

  -- the words of a pool behind its name
  abbrev behind_name : ℕ → List (List ℕ)
  behind_name addr = dotted addr ∷ dotted addr ∷ codes "prefix-length" ∷ codes "24" ∷ []

  pool_go : (n : ℕ) (d next : PoolExpects) (text : List ℕ) (ws : List (List ℕ)) → is_plain text ≡ true → pool_step d (plain_word n text) ≡ Ok next
      → words_read pool_step d (map (plain_word n) (text ∷ ws)) ≡ words_read pool_step next (map (plain_word n) ws)
  pool_go n d next text ws plain step =
      ap (λ o. and_then o (λ s. words_read pool_step s (map (plain_word n) ws))) (if_true (list_all is_printed text) (pool_step d (plain_word n text)) (Err Syntax) (plain_sound text plain) ∙ step)

  pool_words_read : (n addr : ℕ) → addr < 2 ^ 32 → pool_checked (map (plain_word n) (behind_name addr)) ≡ Ok pools.Nothing
  pool_words_read n addr low =
      ap (λ o. and_then o (λ expects. cond (is_whole_pool expects) (Ok expects) (Err Syntax)))
      (pool_go n pools.First (pools.Last addr) (dotted addr) (dotted addr ∷ codes "prefix-length" ∷ codes "24" ∷ []) (address_plain laws addr)
      (ap (λ o. option_map_or (λ a. let x : Result PoolExpects Cause = Ok (pools.Last a) in x) o (Err Syntax)) (laws.quads.0 addr low))
      ∙ pool_go n (pools.Last addr) pools.Length (dotted addr) (codes "prefix-length" ∷ codes "24" ∷ []) (address_plain laws addr)
      (ap (λ o. option_map_or (λ last. let x : Result PoolExpects Cause = cond (nat_eq last addr) (Ok pools.Length) (Err LeftOut) in x) o (Err Syntax)) (laws.quads.0 addr low)
      ∙ if_true (nat_eq addr addr) (let x : Result PoolExpects Cause = Ok pools.Length in x) (Err LeftOut) (eq-eqb addr addr refl)))

  pool_line : (n addr : ℕ) (b : Block) (names : List (List ℕ)) (nats : List IosNat) (ps : List Pool) → addr < 2 ^ 32 → n < 2 ^ 64 → NoNames names n → NoPools ps n
      → IsStep site defined false (pool_words n addr) ps (with_nats b names nats) (ps ++ pool n addr ∷ []) (with_nats blocks.Other (names ++ pool_name n ∷ []) nats)
  pool_line n addr b names nats ps low short fresh unknown k =
      let name = pool_name n in
      let d = with_nats blocks.Other names nats in
      let ws = map (plain_word k) (behind_name addr) in
      let sound = plain_sound name (pool_plain laws n) in (
        if_true (list_all is_printed name) (cond (has_pool names name) (Err Syntax) (and_then (pool_checked ws) (λ whole. let x : Result IosDraft Cause = Ok (with_pool name d) in x))) (Err Syntax) sound
            ∙ if_false (has_pool names name) (Err Syntax) (and_then (pool_checked ws) (λ whole. let x : Result IosDraft Cause = Ok (with_pool name d) in x)) (fresh n (omega arith) short)
            ∙ ap (λ o. and_then o (λ (whole : PoolExpects). let x : Result IosDraft Cause = Ok (with_pool name d) in x)) (pool_words_read k addr low),
        ap (λ o. option_map_or (λ p. with_defined p ps) o ps)
            (if_true (list_all is_printed name) (Some (pool_behind_name name ws)) None sound
            ∙ ap (λ o. let x : Pool = record { name = name; addr = option_map_or (λ a. a) o 0 } in Some x) (laws.quads.0 addr low))
            ∙ if_false (is_some (pool_named name ps)) ps (ps ++ pool n addr ∷ []) (ap is_some (unknown n (omega arith) short)),
      )

  nat_go : (n : ℕ) (d next : NatDraft) (text : List ℕ) (ws : List (List ℕ)) → is_plain text ≡ true → nat_step site defined d (plain_word n text) ≡ Ok next
      → words_read (nat_step site defined) d (map (plain_word n) (text ∷ ws)) ≡ words_read (nat_step site defined) next (map (plain_word n) ws)
  nat_go n d next text ws plain step =
      ap (λ o. and_then o (λ s. words_read (nat_step site defined) s (map (plain_word n) ws)))
      (if_true (list_all is_printed text) (nat_step site defined d (plain_word n text)) (Err Syntax) (plain_sound text plain) ∙ step)

  nat_words_read : (k n addr : ℕ) (name : List ℕ) → is_plain name ≡ true → pool_named (pool_name n) defined ≡ Some (pool n addr)
      → nat_of site defined (map (plain_word k) (codes "list" ∷ name ∷ codes "pool" ∷ pool_name n ∷ codes "overload" ∷ [])) ≡ Ok (Listed name addr)
  nat_words_read k n addr name plain known =
      let d1 : NatDraft = record { expects = expect.List; list = []; nat = None } in
      let d2 : NatDraft = record { expects = expect.Source; list = name; nat = None } in
      let d3 : NatDraft = record { expects = expect.Pool; list = name; nat = None } in
      let d4 : NatDraft = record { expects = expect.Overload; list = name; nat = Some (Listed name addr) } in
      ap (λ o. and_then o nat_made)
      (nat_go k fresh_nat d1 (codes "list") (name ∷ codes "pool" ∷ pool_name n ∷ codes "overload" ∷ []) refl refl
      ∙ nat_go k d1 d2 name (codes "pool" ∷ pool_name n ∷ codes "overload" ∷ []) plain refl
      ∙ nat_go k d2 d3 (codes "pool") (pool_name n ∷ codes "overload" ∷ []) refl refl
      ∙ nat_go k d3 d4 (pool_name n) (codes "overload" ∷ []) (pool_plain laws n)
      (ap (λ o. option_map_or (λ p. let x : Result NatDraft Cause = Ok (with_address p.addr d3) in x) o (Err NoName)) known))

  nat_line : (n addr : ℕ) (name : List ℕ) (b : Block) (names : List (List ℕ)) (nats : List IosNat) (ps : List Pool) → is_plain name ≡ true → pool_named (pool_name n) defined ≡ Some (pool n addr)
      → IsStep site defined false (nat_words n name) ps (with_nats b names nats) ps (with_nats blocks.Other names (nats ++ Listed name addr ∷ []))
  nat_line n addr name b names nats ps plain known k =
      (ap (λ o. and_then o (λ nat. let x : Result IosDraft Cause = Ok (with_nat nat (with_nats blocks.Other names nats)) in x)) (nat_words_read k n addr name plain known), refl)

  -- where translations have been read
  pub record AreTranslated (b : Block) (names : List (List ℕ)) (ahead : List IosNat) (ps : List Pool) (n : ℕ) (nats : List IosNat) : Type 0 where
    pub block : Block
    pub taken : AreTaken site defined ps (with_nats b names ahead) (nats_lines n nats) (ps ++ pools_from n nats) (with_nats block (names ++ names_from n nats) (ahead ++ nats))

  nat_taken : (n addr : ℕ) (name : List ℕ) (b : Block) (names : List (List ℕ)) (ahead : List IosNat) (ps qs : List Pool) (lines : List (List ℕ)) (e : IosDraft) → is_list_name name ≡ true → addr < 2 ^ 32 → n < 2 ^ 64
      → NoNames names n → NoPools ps n → pool_named (pool_name n) defined ≡ Some (pool n addr)
      → AreTaken site defined (ps ++ pool n addr ∷ []) (with_nats blocks.Other (names ++ pool_name n ∷ []) (ahead ++ Listed name addr ∷ [])) lines qs e
      → AreTaken site defined ps (with_nats b names ahead) (spaced (pool_words n addr) ∷ spaced (nat_words n name) ∷ lines) qs e
  nat_taken n addr name b names ahead ps qs lines e h low short fresh unknown known later =
      let plain = name_plain name h in
      let a = address_plain laws addr in
      let own = pool_plain laws n in
      let tail : List (List ℕ) = codes "prefix-length" ∷ codes "24" ∷ [] in
      let end : List (List ℕ) = codes "pool" ∷ pool_name n ∷ codes "overload" ∷ [] in
      next_taken false (codes "ip") (codes "nat" ∷ codes "pool" ∷ pool_name n ∷ dotted addr ∷ dotted addr ∷ tail)
      (words_more (codes "ip") (codes "nat" ∷ codes "pool" ∷ pool_name n ∷ dotted addr ∷ dotted addr ∷ tail) refl
      (words_more (codes "nat") (codes "pool" ∷ pool_name n ∷ dotted addr ∷ dotted addr ∷ tail) refl
      (words_more (codes "pool") (pool_name n ∷ dotted addr ∷ dotted addr ∷ tail) refl
      (words_more (pool_name n) (dotted addr ∷ dotted addr ∷ tail) own (words_more (dotted addr) (dotted addr ∷ tail) a (words_more (dotted addr) tail a refl))))))
      refl (pool_line n addr b names ahead ps low short fresh unknown)
      (next_taken false (codes "ip") (codes "nat" ∷ codes "inside" ∷ codes "source" ∷ codes "list" ∷ name ∷ end)
      (words_more (codes "ip") (codes "nat" ∷ codes "inside" ∷ codes "source" ∷ codes "list" ∷ name ∷ end) refl
      (words_more (codes "nat") (codes "inside" ∷ codes "source" ∷ codes "list" ∷ name ∷ end) refl
      (words_more (codes "inside") (codes "source" ∷ codes "list" ∷ name ∷ end) refl
      (words_more (codes "source") (codes "list" ∷ name ∷ end) refl
      (words_more (codes "list") (name ∷ end) refl
      (words_more name end plain (words_more (codes "pool") (pool_name n ∷ codes "overload" ∷ []) refl (words_more (pool_name n) (codes "overload" ∷ []) own refl))))))))
      refl (nat_line n addr name blocks.Other (names ++ pool_name n ∷ []) ahead (ps ++ pool n addr ∷ []) plain known) later)

  pub nats_taken : (b : Block) (names : List (List ℕ)) (ahead : List IosNat) (ps : List Pool) (n : ℕ) (nats : List IosNat) → list_all is_printed_nat nats ≡ true → n + length nats < 2 ^ 64
      → NoNames names n → NoPools ps n → defined ≡ ps ++ pools_from n nats → AreTranslated b names ahead ps n nats
  nats_taken b names ahead ps n [] h few fresh unknown e = record {
    block = b;
    taken = subst (λ (l : List Pool). AreTaken site defined ps (with_nats b names ahead) [] l (with_nats b (names ++ []) (ahead ++ []))) (sym (append-nil ps))
        (subst (λ (l : List (List ℕ)). AreTaken site defined ps (with_nats b names ahead) [] ps (with_nats b l (ahead ++ []))) (sym (append-nil names))
        (subst (λ (l : List IosNat). AreTaken site defined ps (with_nats b names ahead) [] ps (with_nats b names l)) (sym (append-nil ahead)) none_taken));
  }
  nats_taken b names ahead ps n (Static proto local global ∷ nats) h few fresh unknown e = never h
  nats_taken b names ahead ps n (Listed name addr ∷ nats) h few fresh unknown e =
      let parts = and_parts (is_printed_nat (Listed name addr)) (list_all is_printed_nat nats) h in
      let p = and_parts (is_list_name name) (nat_lt addr (2 ^ 32)) parts.0 in
      let low : addr < 2 ^ 32 = ltb-true addr (2 ^ 32) p.1 in
      let short : n < 2 ^ 64 = omega arith in
      let known : pool_named (pool_name n) defined ≡ Some (pool n addr) =
      ap (pool_named (pool_name n)) e ∙ find_behind (λ x. bytes_eq x.name (pool_name n)) ps (pool n addr ∷ pools_from (n + 1) nats) (unknown n (omega arith) short)
      ∙ if_true (bytes_eq (pool_name n) (pool_name n)) (Some (pool n addr)) (pool_named (pool_name n) (pools_from (n + 1) nats)) ((bytes_eq-Decides (pool_name n) (pool_name n)).1 refl) in
      let own_pool = pool n addr ∷ [] in
      let own_name = pool_name n ∷ [] in
      let own_nat = Listed name addr ∷ [] in
      let later = nats_taken blocks.Other (names ++ own_name) (ahead ++ own_nat) (ps ++ own_pool) (n + 1) nats parts.1 (omega arith) (next_names names n short fresh) (next_pools ps n addr short unknown)
      (e ∙ sym (append_assoc ps own_pool (pools_from (n + 1) nats))) in
      let d1 = with_nats blocks.Other (names ++ own_name) (ahead ++ own_nat) in
      record {
        block = later.block;
        taken = nat_taken n addr name b names ahead ps (ps ++ pools_from n (Listed name addr ∷ nats)) (nats_lines (n + 1) nats) (with_nats later.block (names ++ names_from n (Listed name addr ∷ nats)) (ahead ++ Listed name addr ∷ nats))
            p.0 low short fresh unknown known
            (subst (λ (l : List Pool). AreTaken site defined (ps ++ own_pool) d1 (nats_lines (n + 1) nats) l (with_nats later.block (names ++ names_from n (Listed name addr ∷ nats)) (ahead ++ Listed name addr ∷ nats))) (append_assoc ps own_pool (pools_from (n + 1) nats))
            (subst (λ (l : List (List ℕ)). AreTaken site defined (ps ++ own_pool) d1 (nats_lines (n + 1) nats) ((ps ++ own_pool) ++ pools_from (n + 1) nats) (with_nats later.block l (ahead ++ Listed name addr ∷ nats))) (append_assoc names own_name (names_from (n + 1) nats))
            (subst (λ (l : List IosNat). AreTaken site defined (ps ++ own_pool) d1 (nats_lines (n + 1) nats) ((ps ++ own_pool) ++ pools_from (n + 1) nats) (with_nats later.block ((names ++ own_name) ++ names_from (n + 1) nats) l)) (append_assoc ahead own_nat nats)
            later.taken)));
      }
