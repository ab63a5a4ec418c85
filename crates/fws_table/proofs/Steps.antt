-- One more item, one more side.
use Rattle.std.proofs.Common.{◌≡◌, ℕ, zero, suc, ◌+◌, ◌-◌, ◌<◌, ◌≤◌, List, [], ◌∷◌, ◌++◌, length, get_or, map, take, Some, refl, sym, ◌∙◌, ap, arith, append_assoc}
use Rattle.std.proofs.lemmas.List.{take_more, length-map, length-take-le, map-append}
use Rattle.std.proofs.lemmas.List.FromFn.{length-map-range_with_len, map-range_with_len_more}
use Rattle.std.specs.Prelude.{slice_get}
use Rattle.std.specs.List.{join_with_byte, range_with_len}
use Rattle.fws_iv.specs.declared.iv.Iv.{Iv}
use Rattle.fws_iv.specs.Ivs.{IsRegularFrom}
use Rattle.fws_net.specs.declared.site.Site.{Site}
use Rattle.fws_table.specs.declared.field.Kind.{Kind}
use Rattle.fws_table.specs.TableText.{side_text, side_texts}

-- the texts so far, so many, and with one more
pub record IsNext (texts more : List (List ℕ)) (k : ℕ) (t : List ℕ) : Type 0 where
  pub count : length texts ≡ k
  pub next : more ≡ texts ++ t ∷ []

joined_more : (byte : ℕ) (texts : List (List ℕ)) (t : List ℕ) → 0 < length texts → join_with_byte byte (texts ++ t ∷ []) ≡ join_with_byte byte texts ++ byte ∷ t
joined_more byte [] t h = absurd (omega arith)
joined_more byte (x ∷ []) t h = refl
joined_more byte (x ∷ y ∷ ys) t h =
    ap (λ r. x ++ byte ∷ r) (joined_more byte (y ∷ ys) t (omega arith)) ∙ sym (append_assoc x (byte ∷ join_with_byte byte (y ∷ ys)) (byte ∷ t))

joined_first : (byte : ℕ) (start : List ℕ) (texts : List (List ℕ)) (t : List ℕ) → length texts ≡ 0 → (start ++ join_with_byte byte texts) ++ t ≡ start ++ join_with_byte byte (texts ++ t ∷ [])
joined_first byte start [] t e = append_assoc start [] t
joined_first byte start (x ∷ xs) t e = absurd (omega arith)

-- the first text as it is
pub first_text : (byte k : ℕ) (start before out new : List ℕ) (texts more : List (List ℕ)) (t : List ℕ) → new ≡ out ++ t → out ≡ before
    → before ≡ start ++ join_with_byte byte texts → k ≤ 0 → IsNext texts more k t → new ≡ start ++ join_with_byte byte more
first_text byte k start before out new texts more t made same so_far none one =
    let empty : length texts ≡ 0 = omega (arith, one.count) in
    made ∙ ap (λ x. x ++ t) (same ∙ so_far) ∙ joined_first byte start texts t empty ∙ ap (λ ts. start ++ join_with_byte byte ts) (sym one.next)

-- a further text behind the byte
pub further_text : (byte k : ℕ) (start before out new : List ℕ) (texts more : List (List ℕ)) (t : List ℕ) → new ≡ out ++ t → out ≡ before ++ byte ∷ []
    → before ≡ start ++ join_with_byte byte texts → 0 < k → IsNext texts more k t → new ≡ start ++ join_with_byte byte more
further_text byte k start before out new texts more t made divided so_far some one =
    let there : 0 < length texts = omega (arith, one.count) in
    made ∙ ap (λ x. x ++ t) (divided ∙ ap (λ x. x ++ byte ∷ []) so_far)
    ∙ append_assoc (start ++ join_with_byte byte texts) (byte ∷ []) t ∙ append_assoc start (join_with_byte byte texts) (byte ∷ t)
    ∙ ap (λ x. start ++ x) (sym (joined_more byte texts t there)) ∙ ap (λ ts. start ++ join_with_byte byte ts) (sym one.next)

pub next_entry : (name : ℕ → List ℕ) (lo entry : ℕ) → lo ≤ entry
    → IsNext (map name (range_with_len lo (entry - lo))) (map name (range_with_len lo (entry + 1 - lo))) (entry - lo) (name entry)
next_entry name lo entry le =
    let counted : lo + (entry - lo) ≡ entry = omega arith in
    let more : entry + 1 - lo ≡ (entry - lo) + 1 = omega arith in
    record {
      count = length-map-range_with_len name lo (entry - lo);
      next = ap (λ n. map name (range_with_len lo n)) more ∙ map-range_with_len_more name lo (entry - lo) entry counted;
    }

pub next_part : (text : Iv → List ℕ) (parts : List Iv) (k : ℕ) (d : Iv) → k < length parts
    → IsNext (map text (take k parts)) (map text (take (k + 1) parts)) k (text (get_or parts k d))
next_part text parts k d lt = record {
  count = length-map (take k parts) text ∙ length-take-le k parts (omega arith);
  next = ap (map text) (take_more parts k d lt) ∙ map-append text (take k parts) (get_or parts k d ∷ []);
}

-- an interval of a regular list has a value
pub parts_in_order : (from : ℕ) (s : List Iv) → IsRegularFrom from s → (k : ℕ) (d : Iv) → k < length s → (get_or s k d).lo ≤ (get_or s k d).hi
parts_in_order from [] h k d lt = absurd (omega arith)
parts_in_order from (x ∷ xs) h zero d lt = h.1
parts_in_order from (x ∷ xs) h (suc k) d lt = parts_in_order (x.hi + 2) xs h.2 k d (omega arith)

-- the text of a side stands at its place
pub record StandsAt (site : Site) (kinds : List Kind) (tops : List ℕ) (sides : List (List Iv)) (k : ℕ) (kind : Kind) (d : List Iv) : Type 0 where
  pub within : k < length (side_texts site kinds tops sides)
  pub text : get_or (side_texts site kinds tops sides) k [] ≡ side_text site kind (get_or tops k 0) (get_or sides k d)

pub side_at : (site : Site) (kinds : List Kind) (tops : List ℕ) (sides : List (List Iv)) (k : ℕ) (kind : Kind) (d : List Iv)
    → slice_get kinds k ≡ Some kind → k < length tops → k < length sides → StandsAt site kinds tops sides k kind d
side_at site [] tops sides k kind d at in_tops in_sides = absurd (cc)
side_at site (x ∷ xs) [] sides k kind d at in_tops in_sides = absurd (omega arith)
side_at site (x ∷ xs) (t ∷ ts) [] k kind d at in_tops in_sides = absurd (omega arith)
side_at site (x ∷ xs) (t ∷ ts) (s ∷ ss) zero kind d at in_tops in_sides =
    let same : x ≡ kind = cc in
    record { within = omega arith; text = ap (λ y. side_text site y t s) same }
side_at site (x ∷ xs) (t ∷ ts) (s ∷ ss) (suc k) kind d at in_tops in_sides =
    let below = side_at site xs ts ss k kind d at (omega arith) (omega arith) in
    record { within = omega (arith, below.within); text = below.text }

pub next_side : (site : Site) (kinds : List Kind) (tops : List ℕ) (sides : List (List Iv)) (k : ℕ) (kind : Kind) (d : List Iv)
    → slice_get kinds k ≡ Some kind → k < length tops → k < length sides
    → IsNext (take k (side_texts site kinds tops sides)) (take (k + 1) (side_texts site kinds tops sides)) k (side_text site kind (get_or tops k 0) (get_or sides k d))
next_side site kinds tops sides k kind d at in_tops in_sides =
    let there = side_at site kinds tops sides k kind d at in_tops in_sides in
    let texts = side_texts site kinds tops sides in
    record {
      count = length-take-le k texts (omega (arith, there.within));
      next = take_more texts k [] there.within ∙ ap (λ t. take k texts ++ t ∷ []) there.text;
    }
