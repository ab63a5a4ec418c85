-- The numbers of entries and translations, beside the rules of the diagram in which these have their places.
use Rattle.std.proofs.Common.{◌≡◌, ℕ, suc, ◌+◌, ◌<◌, ◌≤◌, Bool, true, false, cond, ◌&&◌, nat_lt, Option, Some, None, List, [], ◌∷◌, ◌++◌, length, arith, refl, sym, ap, ◌∙◌, append-nil, append_assoc, length-append}
use Rattle.std.proofs.lemmas.Bool.{lt-ltb}
use Rattle.std.proofs.lemmas.List.Folds.{list_all-append}
use Rattle.std.specs.List.{list_all}
use Rattle.std.specs.Option.{option_map_or}
use Rattle.fws_ifcl.specs.declared.diagram.Act.TheVariants.{Accept, Drop}
use Rattle.fws_ifcl.specs.declared.diagram.Spot.{Spot}
use Rattle.fws_ifcl.specs.Spots.{are_spots_of}
use Rattle.fws_ifcl_rules.specs.Rules.{ruled, guarded}
use Rattle.fws_ifcl_rules.specs.UsedPlaces.{spots_from, chain_spots, are_below, FitBeside, TellsOfUses}
use Rattle.fws_ios.specs.declared.config.IosConfig.{IosConfig}
use Rattle.fws_ios.specs.declared.config.IosEntry.{IosEntry}
use Rattle.fws_ios.specs.declared.config.IosGroup.{IosGroup}
use Rattle.fws_ios.specs.declared.config.IosList.{IosList}
use Rattle.fws_ios.specs.declared.config.IosNat.{IosNat}
use Rattle.fws_ios.specs.declared.config.IosNat.TheVariants.{Static, List as Listed}
use Rattle.fws_ios.specs.Uses.{first_translation}
use Rattle.fws_ios.specs.Walk.{is_directed, list_named}
use Rattle.fws_ios_ifcl.specs.Blocks.{listing, at_face, applied, applied_from, static_rules, statics_from, choosing, choosing_rules}
use Rattle.fws_ios_ifcl.specs.Diagram.{destination_rules, list_rules, source_front}
use Rattle.fws_ios_ifcl.specs.Placed.{asking_from, placed_sources, chains_with, placed_of, count_of, first_entry, spot, listing_spots, applied_spots, applied_spots_from, static_spots, statics_spots, choosing_spots, asking_spots, asking_spots_from, list_spots, destination_spots, source_spots, spots_of}
use Rattle.fws_ios_ifcl.proofs.Chosen.{listing_length, choosing_length}
use Rattle.fws_ios_ifcl.proofs.Counted.{entries_in, first_within}

-- What stands beside the rules

-- those of a list, of which the first entry is counted n
abbrev pub listing_beside : ℕ → List IosEntry → List (List ℕ)
listing_beside n [] = [] ∷ []
listing_beside n (entry ∷ entries) = (n ∷ []) ∷ listing_beside (suc n) entries

-- those of a list at an interface, or where there is none
abbrev pub found_beside : ℕ → Option IosList → List (List ℕ)
found_beside n found = option_map_or (λ (l : IosList). [] ∷ [] ∷ listing_beside n l.entries) found ([] ∷ [])

abbrev pub applied_beside : Bool → List IosList → IosGroup → List (List ℕ)
applied_beside outward lists g = cond (is_directed outward g) (found_beside (first_entry 0 g.list lists) (list_named g.list lists)) []

abbrev pub applied_beside_from : Bool → List IosList → List IosGroup → List (List ℕ)
applied_beside_from outward lists [] = []
applied_beside_from outward lists (g ∷ gs) = applied_beside outward lists g ++ applied_beside_from outward lists gs

-- those of a static, of number n
abbrev pub static_beside : ℕ → IosNat → List (List ℕ)
static_beside n (Static proto local global) = (n ∷ []) ∷ [] ∷ [] ∷ [] ∷ []
static_beside n (Listed name addr) = []

abbrev pub statics_beside : ℕ → List IosNat → List (List ℕ)
statics_beside n [] = []
statics_beside n (nat ∷ nats) = static_beside n nat ++ statics_beside (suc n) nats

-- those of a list that chooses packets, of which the first entry has the number first, for the translation of number n
abbrev pub choosing_beside : ℕ → ℕ → List IosEntry → List (List ℕ)
choosing_beside first n entries = listing_beside first entries ++ (n ∷ []) ∷ [] ∷ []

abbrev pub chosen_beside : ℕ → ℕ → Option IosList → List (List ℕ)
chosen_beside first n found = option_map_or (λ (l : IosList). choosing_beside first n l.entries) found []

abbrev pub asking_beside : List IosList → ℕ → IosNat → List (List ℕ)
asking_beside lists n (Static proto local global) = []
asking_beside lists n (Listed name addr) = chosen_beside (first_entry 0 name lists) n (list_named name lists)

abbrev pub asking_beside_from : List IosList → ℕ → List IosNat → List (List ℕ)
asking_beside_from lists n [] = []
asking_beside_from lists n (nat ∷ nats) = asking_beside lists n nat ++ asking_beside_from lists (suc n) nats

-- those of each chain
abbrev pub list_beside : Bool → IosConfig → List (List ℕ)
list_beside outward c = applied_beside_from outward c.lists c.groups

abbrev pub destination_beside : IosConfig → List (List ℕ)
destination_beside c = [] ∷ [] ∷ [] ∷ statics_beside (first_translation c) c.nats

abbrev pub front_beside : IosConfig → List (List ℕ)
front_beside c = [] ∷ [] ∷ [] ∷ [] ∷ statics_beside (first_translation c) c.nats

abbrev pub source_beside : IosConfig → List (List ℕ)
source_beside c = front_beside c ++ asking_beside_from c.lists (first_translation c) c.nats

abbrev pub besides : IosConfig → List (List (List ℕ))
besides c = list_beside false c ∷ destination_beside c ∷ source_beside c ∷ list_beside true c ∷ []

-- There are as many as rules

pub listing_many : (n : ℕ) (entries : List IosEntry) → length (listing_beside n entries) ≡ 1 + length entries
listing_many n [] = refl
listing_many n (entry ∷ entries) = let more : length (listing_beside (suc n) entries) ≡ 1 + length entries = listing_many (suc n) entries in omega (arith, more)

found_many : (outward : Bool) (at face n : ℕ) (found : Option IosList) → length (found_beside n found)
    ≡ length (option_map_or (λ (l : IosList). guarded at (at_face outward face) (listing Accept Drop l.entries)) found (ruled (at_face outward face) Accept ∷ []))
found_many outward at face n None = refl
found_many outward at face n (Some l) =
    ap (λ m. suc (suc m)) (listing_many n l.entries ∙ sym (listing_length Accept Drop l.entries))

cond_many : {X Y : Type 0} (b : Bool) (xs : List X) (ys : List Y) → length xs ≡ length ys → length (cond b xs []) ≡ length (cond b ys [])
cond_many true xs ys is = is
cond_many false xs ys is = refl

pub applied_many : (outward : Bool) (at : ℕ) (lists : List IosList) (g : IosGroup) → length (applied_beside outward lists g) ≡ length (applied outward at lists g)
applied_many outward at lists g =
    let found = list_named g.list lists in
    cond_many (is_directed outward g) (found_beside (first_entry 0 g.list lists) found)
    (option_map_or (λ (l : IosList). guarded at (at_face outward g.face) (listing Accept Drop l.entries)) found (ruled (at_face outward g.face) Accept ∷ []))
    (found_many outward at g.face (first_entry 0 g.list lists) found)

-- two parts are as long as two others
both_many : {X Y : Type 0} (xs more : List X) (ys rest : List Y) → length xs ≡ length ys → length more ≡ length rest → length (xs ++ more) ≡ length (ys ++ rest)
both_many xs more ys rest first second =
    let one : length (xs ++ more) ≡ length xs + length more = length-append xs more in
    let other : length (ys ++ rest) ≡ length ys + length rest = length-append ys rest in
    omega (arith, one, other, first, second)

applied_from_many : (outward : Bool) (at : ℕ) (lists : List IosList) (gs : List IosGroup)
    → length (applied_beside_from outward lists gs) ≡ length (applied_from outward at lists gs)
applied_from_many outward at lists [] = refl
applied_from_many outward at lists (g ∷ gs) =
    let next = at + length (applied outward at lists g) in
    both_many (applied_beside outward lists g) (applied_beside_from outward lists gs) (applied outward at lists g) (applied_from outward next lists gs)
    (applied_many outward at lists g) (applied_from_many outward next lists gs)

pub static_many : (outward : Bool) (at n : ℕ) (nat : IosNat) → length (static_beside n nat) ≡ length (static_rules outward at nat)
static_many true at n (Static proto local global) = refl
static_many false at n (Static proto local global) = refl
static_many true at n (Listed name addr) = refl
static_many false at n (Listed name addr) = refl

pub statics_many : (outward : Bool) (at n : ℕ) (nats : List IosNat) → length (statics_beside n nats) ≡ length (statics_from outward at nats)
statics_many outward at n [] = refl
statics_many outward at n (nat ∷ nats) =
    let next = at + length (static_rules outward at nat) in
    both_many (static_beside n nat) (statics_beside (suc n) nats) (static_rules outward at nat) (statics_from outward next nats)
    (static_many outward at n nat) (statics_many outward next (suc n) nats)

pub choosing_many : (first n : ℕ) (entries : List IosEntry) → length (choosing_beside first n entries) ≡ 3 + length entries
choosing_many first n entries =
    let all : length (choosing_beside first n entries) ≡ length (listing_beside first entries) + 2 = length-append (listing_beside first entries) ((n ∷ []) ∷ [] ∷ []) in
    let many : length (listing_beside first entries) ≡ 1 + length entries = listing_many first entries in
    omega (arith, all, many)

pub chosen_many : (at first n addr : ℕ) (found : Option IosList)
    → length (chosen_beside first n found) ≡ length (option_map_or (λ (l : IosList). choosing at l.entries addr) found [])
chosen_many at first n addr None = refl
chosen_many at first n addr (Some l) = choosing_many first n l.entries ∙ sym (choosing_length at l.entries addr)

pub asking_many : (at : ℕ) (lists : List IosList) (n : ℕ) (nat : IosNat) → length (asking_beside lists n nat) ≡ length (choosing_rules at lists [] nat)
asking_many at lists n (Static proto local global) = refl
asking_many at lists n (Listed name addr) = chosen_many at (first_entry 0 name lists) n addr (list_named name lists)

asking_from_many : (at : ℕ) (lists : List IosList) (n : ℕ) (nats : List IosNat) → length (asking_beside_from lists n nats) ≡ length (asking_from at lists nats)
asking_from_many at lists n [] = refl
asking_from_many at lists n (nat ∷ nats) =
    let next = at + length (choosing_rules at lists [] nat) in
    both_many (asking_beside lists n nat) (asking_beside_from lists (suc n) nats) (choosing_rules at lists [] nat) (asking_from next lists nats)
    (asking_many at lists n nat) (asking_from_many next lists (suc n) nats)

pub front_many : (c : IosConfig) → length (front_beside c) ≡ length (source_front c)
front_many c = ap (λ m. suc (suc (suc (suc m)))) (statics_many true 4 (first_translation c) c.nats)

source_many : (c : IosConfig) → length (source_beside c) ≡ length (placed_sources c)
source_many c =
    both_many (front_beside c) (asking_beside_from c.lists (first_translation c) c.nats) (source_front c) (asking_from (length (source_front c)) c.lists c.nats)
    (front_many c) (asking_from_many (length (source_front c)) c.lists (first_translation c) c.nats)

-- as long is not longer
not_longer : {X Y : Type 0} (xs : List X) (ys : List Y) → length xs ≡ length ys → length xs ≤ length ys
not_longer xs ys is = omega (arith, is)

fit_beside : (c : IosConfig) → FitBeside (chains_with (placed_sources c) c) (besides c)
fit_beside c = (
  not_longer (list_beside false c) (list_rules false c) (applied_from_many false 0 c.lists c.groups),
  (
    not_longer (destination_beside c) (destination_rules c) (ap (λ m. suc (suc (suc m))) (statics_many false 3 (first_translation c) c.nats)),
    (
      not_longer (source_beside c) (placed_sources c) (source_many c),
      (not_longer (list_beside true c) (list_rules true c) (applied_from_many true 0 c.lists c.groups), tt),
    ),
  ),
)

-- The spots are those of what stands beside the rules

listing_spotted : (chain at n : ℕ) (entries : List IosEntry) → listing_spots chain at n entries ≡ spots_from chain at (listing_beside n entries)
listing_spotted chain at n [] = refl
listing_spotted chain at n (entry ∷ entries) =
    let next : at + 1 ≡ suc at = omega arith in
    let more : n + 1 ≡ suc n = omega arith in
    ap (λ spots. spot chain at n ∷ spots)
    (ap (λ m. listing_spots chain m (n + 1) entries) next ∙ ap (λ m. listing_spots chain (suc at) m entries) more ∙ listing_spotted chain (suc at) (suc n) entries)

found_spotted : (chain at n : ℕ) (found : Option IosList)
    → option_map_or (λ (l : IosList). listing_spots chain (at + 2) n l.entries) found [] ≡ spots_from chain at (found_beside n found)
found_spotted chain at n None = refl
found_spotted chain at n (Some l) =
    let next : at + 2 ≡ suc (suc at) = omega arith in
    ap (λ m. listing_spots chain m n l.entries) next ∙ listing_spotted chain (suc (suc at)) n l.entries

cond_spotted : (chain at : ℕ) (b : Bool) (spots : List Spot) (beside : List (List ℕ)) → spots ≡ spots_from chain at beside
    → cond b spots [] ≡ spots_from chain at (cond b beside [])
cond_spotted chain at true spots beside is = is
cond_spotted chain at false spots beside is = refl

applied_spotted : (chain : ℕ) (outward : Bool) (at : ℕ) (lists : List IosList) (g : IosGroup)
    → applied_spots chain outward at lists g ≡ spots_from chain at (applied_beside outward lists g)
applied_spotted chain outward at lists g =
    let n = first_entry 0 g.list lists in
    let found = list_named g.list lists in
    cond_spotted chain at (is_directed outward g) (option_map_or (λ (l : IosList). listing_spots chain (at + 2) n l.entries) found []) (found_beside n found)
    (found_spotted chain at n found)

static_spotted : (chain at n : ℕ) (nat : IosNat) → static_spots chain at n nat ≡ spots_from chain at (static_beside n nat)
static_spotted chain at n (Static proto local global) = refl
static_spotted chain at n (Listed name addr) = refl

module _ (law : TellsOfUses) where
  -- those of two parts
  both_spotted : (chain at next : ℕ) (one other : List Spot) (xs ys : List (List ℕ)) → one ≡ spots_from chain at xs → other ≡ spots_from chain next ys
      → at + length xs ≡ next → one ++ other ≡ spots_from chain at (xs ++ ys)
  both_spotted chain at next one other xs ys first second place =
      ap (λ spots. spots ++ other) first ∙ ap (λ spots. spots_from chain at xs ++ spots) second ∙ sym (law.joined chain at next xs ys place)

  applied_from_spotted : (chain : ℕ) (outward : Bool) (at : ℕ) (lists : List IosList) (gs : List IosGroup)
      → applied_spots_from chain outward at lists gs ≡ spots_from chain at (applied_beside_from outward lists gs)
  applied_from_spotted chain outward at lists [] = refl
  applied_from_spotted chain outward at lists (g ∷ gs) =
      let next = at + length (applied outward at lists g) in
      both_spotted chain at next (applied_spots chain outward at lists g) (applied_spots_from chain outward next lists gs)
      (applied_beside outward lists g) (applied_beside_from outward lists gs)
      (applied_spotted chain outward at lists g) (applied_from_spotted chain outward next lists gs) (ap (λ m. at + m) (applied_many outward at lists g))

  statics_spotted : (chain : ℕ) (outward : Bool) (at n : ℕ) (nats : List IosNat) → statics_spots chain outward at n nats ≡ spots_from chain at (statics_beside n nats)
  statics_spotted chain outward at n [] = refl
  statics_spotted chain outward at n (nat ∷ nats) =
      let next = at + length (static_rules outward at nat) in
      let more : n + 1 ≡ suc n = omega arith in
      both_spotted chain at next (static_spots chain at n nat) (statics_spots chain outward next (n + 1) nats) (static_beside n nat) (statics_beside (suc n) nats)
      (static_spotted chain at n nat) (ap (λ m. statics_spots chain outward next m nats) more ∙ statics_spotted chain outward next (suc n) nats)
      (ap (λ m. at + m) (static_many outward at n nat))

  choosing_spotted : (chain at first n : ℕ) (entries : List IosEntry) → choosing_spots chain at first n entries ≡ spots_from chain at (choosing_beside first n entries)
  choosing_spotted chain at first n entries =
      let many : length (listing_beside first entries) ≡ 1 + length entries = listing_many first entries in
      both_spotted chain at (at + (length entries + 1)) (listing_spots chain at first entries) (spot chain (at + (length entries + 1)) n ∷ [])
      (listing_beside first entries) ((n ∷ []) ∷ [] ∷ []) (listing_spotted chain at first entries) refl (omega (arith, many))

  chosen_spotted : (chain at first n : ℕ) (found : Option IosList)
      → option_map_or (λ (l : IosList). choosing_spots chain at first n l.entries) found [] ≡ spots_from chain at (chosen_beside first n found)
  chosen_spotted chain at first n None = refl
  chosen_spotted chain at first n (Some l) = choosing_spotted chain at first n l.entries

  asking_spotted : (chain at : ℕ) (lists : List IosList) (n : ℕ) (nat : IosNat) → asking_spots chain at lists n nat ≡ spots_from chain at (asking_beside lists n nat)
  asking_spotted chain at lists n (Static proto local global) = refl
  asking_spotted chain at lists n (Listed name addr) = chosen_spotted chain at (first_entry 0 name lists) n (list_named name lists)

  asking_from_spotted : (chain at : ℕ) (lists : List IosList) (n : ℕ) (nats : List IosNat)
      → asking_spots_from chain at lists n nats ≡ spots_from chain at (asking_beside_from lists n nats)
  asking_from_spotted chain at lists n [] = refl
  asking_from_spotted chain at lists n (nat ∷ nats) =
      let next = at + length (choosing_rules at lists [] nat) in
      let more : n + 1 ≡ suc n = omega arith in
      both_spotted chain at next (asking_spots chain at lists n nat) (asking_spots_from chain next lists (n + 1) nats)
      (asking_beside lists n nat) (asking_beside_from lists (suc n) nats)
      (asking_spotted chain at lists n nat) (ap (λ m. asking_spots_from chain next lists m nats) more ∙ asking_from_spotted chain next lists (suc n) nats)
      (ap (λ m. at + m) (asking_many at lists n nat))

  source_spotted : (c : IosConfig) → source_spots c ≡ spots_from 2 0 (source_beside c)
  source_spotted c =
      let first = first_translation c in
      let place = length (source_front c) in
      let many : length (front_beside c) ≡ place = front_many c in
      let front : 4 + length (statics_beside first c.nats) ≡ place = omega (arith, many) in
      both_spotted 2 4 place (statics_spots 2 true 4 first c.nats) (asking_spots_from 2 place c.lists first c.nats)
      (statics_beside first c.nats) (asking_beside_from c.lists first c.nats)
      (statics_spotted 2 true 4 first c.nats) (asking_from_spotted 2 place c.lists first c.nats) front

  four_chains : (a b d e : List Spot) (w x y z : List Spot) → a ≡ w → b ≡ x → d ≡ y → e ≡ z → a ++ b ++ d ++ e ≡ w ++ (x ++ (y ++ (z ++ [])))
  four_chains a b d e w x y z one two three four =
      append_assoc (a ++ b) d e ∙ append_assoc a b (d ++ e)
      ∙ ap (λ l. l ++ (b ++ (d ++ e))) one ∙ ap (λ l. w ++ (l ++ (d ++ e))) two ∙ ap (λ l. w ++ (x ++ (l ++ e))) three
      ∙ ap (λ l. w ++ (x ++ (y ++ l))) (four ∙ sym (append-nil z))

  pub spots_beside : (c : IosConfig) → spots_of c ≡ chain_spots 0 (besides c)
  spots_beside c =
      four_chains (list_spots 0 false c) (destination_spots c) (source_spots c) (list_spots 3 true c)
      (spots_from 0 0 (list_beside false c)) (spots_from 1 0 (destination_beside c)) (spots_from 2 0 (source_beside c)) (spots_from 3 0 (list_beside true c))
      (applied_from_spotted 0 false 0 c.lists c.groups) (statics_spotted 1 false 3 (first_translation c) c.nats) (source_spotted c)
      (applied_from_spotted 3 true 0 c.lists c.groups)

-- The numbers are those of entries and translations

number_below : (total n : ℕ) (beside : List (List ℕ)) → n < total → are_below total beside ≡ true → are_below total ((n ∷ []) ∷ beside) ≡ true
number_below total n beside lt more =
    let first : nat_lt n total ≡ true = lt-ltb n total lt in
    λ i. (first i && true) && more i

both_below : (total : ℕ) (xs ys : List (List ℕ)) → are_below total xs ≡ true → are_below total ys ≡ true → are_below total (xs ++ ys) ≡ true
both_below total xs ys first second =
    let below : List ℕ → Bool = λ numbers. list_all (λ n. nat_lt n total) numbers in
    list_all-append below xs ys ∙ (λ i. first i && second i)

cond_below : (total : ℕ) (b : Bool) (beside : List (List ℕ)) → are_below total beside ≡ true → are_below total (cond b beside []) ≡ true
cond_below total true beside is = is
cond_below total false beside is = refl

listing_below : (total n : ℕ) (entries : List IosEntry) → n + length entries ≤ total → are_below total (listing_beside n entries) ≡ true
listing_below total n [] le = refl
listing_below total n (entry ∷ entries) le =
    number_below total n (listing_beside (suc n) entries) (omega (arith, le)) (listing_below total (suc n) entries (omega (arith, le)))

module _ (total : ℕ) (lists : List IosList) (le : entries_in lists ≤ total) where
  found_below : (name : List ℕ) (found : Option IosList) → list_named name lists ≡ found → are_below total (found_beside (first_entry 0 name lists) found) ≡ true
  found_below name None is = refl
  found_below name (Some l) is = listing_below total (first_entry 0 name lists) l.entries (first_within total 0 name lists l is (omega (arith, le)))

  applied_from_below : (outward : Bool) (gs : List IosGroup) → are_below total (applied_beside_from outward lists gs) ≡ true
  applied_from_below outward [] = refl
  applied_from_below outward (g ∷ gs) =
      let found = list_named g.list lists in
      both_below total (applied_beside outward lists g) (applied_beside_from outward lists gs)
      (cond_below total (is_directed outward g) (found_beside (first_entry 0 g.list lists) found) (found_below g.list found refl))
      (applied_from_below outward gs)

  chosen_below : (name : List ℕ) (n : ℕ) → n < total → (found : Option IosList) → list_named name lists ≡ found
      → are_below total (chosen_beside (first_entry 0 name lists) n found) ≡ true
  chosen_below name n lt None is = refl
  chosen_below name n lt (Some l) is =
      both_below total (listing_beside (first_entry 0 name lists) l.entries) ((n ∷ []) ∷ [] ∷ [])
      (listing_below total (first_entry 0 name lists) l.entries (first_within total 0 name lists l is (omega (arith, le))))
      (number_below total n ([] ∷ []) lt refl)

  asking_below : (n : ℕ) (nat : IosNat) → n < total → are_below total (asking_beside lists n nat) ≡ true
  asking_below n (Static proto local global) lt = refl
  asking_below n (Listed name addr) lt = chosen_below name n lt (list_named name lists) refl

  asking_from_below : (n : ℕ) (nats : List IosNat) → n + length nats ≤ total → are_below total (asking_beside_from lists n nats) ≡ true
  asking_from_below n [] near = refl
  asking_from_below n (nat ∷ nats) near =
      both_below total (asking_beside lists n nat) (asking_beside_from lists (suc n) nats) (asking_below n nat (omega (arith, near)))
      (asking_from_below (suc n) nats (omega (arith, near)))

static_below : (total n : ℕ) (nat : IosNat) → n < total → are_below total (static_beside n nat) ≡ true
static_below total n (Static proto local global) lt = number_below total n ([] ∷ [] ∷ [] ∷ []) lt refl
static_below total n (Listed name addr) lt = refl

statics_below : (total n : ℕ) (nats : List IosNat) → n + length nats ≤ total → are_below total (statics_beside n nats) ≡ true
statics_below total n [] le = refl
statics_below total n (nat ∷ nats) le =
    both_below total (static_beside n nat) (statics_beside (suc n) nats) (static_below total n nat (omega (arith, le))) (statics_below total (suc n) nats (omega (arith, le)))

all_below : (c : IosConfig) → list_all (are_below (count_of c)) (besides c) ≡ true
all_below c =
    let total = count_of c in
    let first = first_translation c in
    let le : entries_in c.lists ≤ total = omega arith in
    let near : first + length c.nats ≤ total = omega arith in
    let one : are_below total (list_beside false c) ≡ true = applied_from_below total c.lists le false c.groups in
    let two : are_below total (destination_beside c) ≡ true = statics_below total first c.nats near in
    let three : are_below total (source_beside c) ≡ true =
    both_below total (front_beside c) (asking_beside_from c.lists first c.nats) (statics_below total first c.nats near) (asking_from_below total c.lists le first c.nats near) in
    let four : are_below total (list_beside true c) ≡ true = applied_from_below total c.lists le true c.groups in
    λ i. one i && (two i && (three i && (four i && true)))

-- the spots are right
pub spots_right : (law : TellsOfUses) (c : IosConfig) → are_spots_of (placed_of c) (count_of c) (spots_of c) ≡ true
spots_right law c =
    ap (are_spots_of (placed_of c) (count_of c)) (spots_beside law c) ∙ law.right (placed_of c) (count_of c) (besides c) (all_below c) (fit_beside c)
