-- Points as which a packet is seen have the same value where rules can tell it.
use Rattle.std.proofs.Common.{◌≡◌, ℕ, suc, ◌<◌, ◌≤◌, Bool, true, false, Option, Some, None, List, [], ◌∷◌, ◌++◌, length, refl, sym, ◌∙◌, ap, subst, arith, append_assoc, length-append}
use Rattle.std.proofs.lemmas.List.{get_or_at, set_at}
use Rattle.std.specs.Option.{option_map}
use Rattle.std.specs.Prelude.{slice_index, slice_set}
use Rattle.fws_box.specs.Sides.{IsWithin}
use Rattle.fws_net.specs.declared.packet.Packet.{Packet}
use Rattle.fws_tree.specs.Plain.{Plain, value}
use Rattle.fws_tree_seen.specs.declared.field.PacketField.{PacketField}
use Rattle.fws_tree_seen.specs.declared.seen.Seen.{Seen}
use Rattle.fws_tree_seen.specs.declared.seen.Seen.TheVariants.{Entered, Routed}
use Rattle.fws_tree_seen.specs.Shown.{has_field, seen_field, shown, value_of, IsTold}
use Rattle.fws_tree_seen.proofs.Points.{SeenAt, SeenFrom}

within_append : (ft rt front rest : List ℕ) → IsWithin ft front → IsWithin rt rest → IsWithin (ft ++ rt) (front ++ rest)
within_append [] rt [] rest a b = b
within_append [] rt (x ∷ front) rest a b = absurd a
within_append (top ∷ ft) rt [] rest a b = absurd a
within_append (top ∷ ft) rt (x ∷ front) rest a b = (a.0, within_append ft rt front rest a.1 b)

within-length : (ft front : List ℕ) → IsWithin ft front → length ft ≡ length front
within-length [] [] a = refl
within-length [] (x ∷ front) a = absurd a
within-length (top ∷ ft) [] a = absurd a
within-length (top ∷ ft) (x ∷ front) a = ap suc (within-length ft front a.1)

-- the protocol is seen
pub shown_proto : (seen : Seen) (q : Packet) → shown seen 1 q ≡ Some q.proto
shown_proto Entered q = refl
shown_proto Routed q = refl

-- what isn't seen of one packet is seen of none
unseen_of_all : (o : Option PacketField) (q : Packet) → option_map (λ field. value_of field q) o ≡ None → (r : Packet) → option_map (λ field. value_of field r) o ≡ None
unseen_of_all None q e r = refl
unseen_of_all (Some field) q e r = absurd (cc)

-- the cases of a field: it is seen, or the protocol lacks it, or nothing is seen in its place
seen_cases : (P : Type 0) (b : Bool) (o : Option ℕ) → ((v : ℕ) → b ≡ true → o ≡ Some v → P) → (b ≡ false → P) → (o ≡ None → P) → P
seen_cases P true (Some v) f g h = f v refl refl
seen_cases P true None f g h = h refl
seen_cases P false o f g h = g refl

-- one field is changed
one_changed : {L : Type 0} → (seen : Seen) (tops : List ℕ) (t : Plain L) → IsTold seen tops t → length tops ≡ 12 → (q : Packet)
    → (t0 t1 top : ℕ) (ft rt : List ℕ) → tops ≡ t0 ∷ t1 ∷ (ft ++ top ∷ rt)
    → (x0 x1 a b : ℕ) (front rest : List ℕ) → x1 ≡ q.proto → IsWithin ft front → b ≤ top
    → IsWithin tops (x0 ∷ x1 ∷ (front ++ a ∷ rest)) → SeenAt seen q (suc (suc (length front))) a → SeenAt seen q (suc (suc (length front))) b
    → value t (x0 ∷ x1 ∷ (front ++ b ∷ rest)) ≡ value t (x0 ∷ x1 ∷ (front ++ a ∷ rest))
one_changed seen tops t told twelve q t0 t1 top ft rt is x0 x1 a b front rest proto wf le within sa sb =
    let f : ℕ = suc (suc (length front)) in
    let p : List ℕ = x0 ∷ x1 ∷ (front ++ a ∷ rest) in
    let r : List ℕ = x0 ∷ x1 ∷ (front ++ b ∷ rest) in
    let set-is : slice_set p f b ≡ r = ap (λ l. x0 ∷ x1 ∷ l) (set_at front a rest b (length front) refl) in
    let top-is : slice_index tops f ≡ top = ap (λ l. slice_index l f) is ∙ get_or_at ft top rt 0 (length front) (within-length ft front wf) in
    let short : f < 12 = omega (arith, twelve, ap length is, length-append ft (top ∷ rt), within-length ft front wf) in
    let below : b ≤ slice_index tops f = omega (arith, top-is) in
    seen_cases (value t r ≡ value t p) (has_field q.proto f) (shown seen f q)
    (λ v y e. let same : b ≡ a = sb v y e ∙ sym (sa v y e) in ap (λ z. value t (x0 ∷ x1 ∷ (front ++ z ∷ rest))) same)
    (λ n. let lacks : has_field x1 f ≡ false = ap (λ z. has_field z f) proto ∙ n in
    subst (λ l. value t l ≡ value t p) set-is (told.lacking f p within lacks b below))
    (λ n. subst (λ l. value t l ≡ value t p) set-is (told.unseen f p (omega arith) short (unseen_of_all (seen_field seen f) q n) within b below))

-- the fields from one on are changed
all_changed : {L : Type 0} → (seen : Seen) (tops : List ℕ) (t : Plain L) → IsTold seen tops t → length tops ≡ 12 → (q : Packet)
    → (t0 t1 : ℕ) (ft rt : List ℕ) → tops ≡ t0 ∷ t1 ∷ (ft ++ rt)
    → (x0 x1 : ℕ) (front rest other : List ℕ) → x0 ≤ t0 → x1 ≤ t1 → x1 ≡ q.proto → IsWithin ft front → IsWithin rt rest → IsWithin rt other
    → SeenFrom seen q (suc (suc (length front))) rest → SeenFrom seen q (suc (suc (length front))) other
    → value t (x0 ∷ x1 ∷ (front ++ other)) ≡ value t (x0 ∷ x1 ∷ (front ++ rest))
all_changed seen tops t told twelve q t0 t1 ft [] is x0 x1 front [] [] l0 l1 proto wf wr wo sr so = refl
all_changed seen tops t told twelve q t0 t1 ft [] is x0 x1 front (a ∷ rest) other l0 l1 proto wf wr wo sr so = absurd wr
all_changed seen tops t told twelve q t0 t1 ft [] is x0 x1 front [] (b ∷ other) l0 l1 proto wf wr wo sr so = absurd wo
all_changed seen tops t told twelve q t0 t1 ft (top ∷ rt) is x0 x1 front [] other l0 l1 proto wf wr wo sr so = absurd wr
all_changed seen tops t told twelve q t0 t1 ft (top ∷ rt) is x0 x1 front (a ∷ rest) [] l0 l1 proto wf wr wo sr so = absurd wo
all_changed seen tops t told twelve q t0 t1 ft (top ∷ rt) is x0 x1 front (a ∷ rest) (b ∷ other) l0 l1 proto wf wr wo sr so =
    let within : IsWithin tops (x0 ∷ x1 ∷ (front ++ a ∷ rest)) = subst (λ l. IsWithin l (x0 ∷ x1 ∷ (front ++ a ∷ rest))) (sym is) (l0, (l1, within_append ft (top ∷ rt) front (a ∷ rest) wf wr)) in
    let first = one_changed seen tops t told twelve q t0 t1 top ft rt is x0 x1 a b front rest proto wf wo.0 within sr.0 so.0 in
    let tops-is : tops ≡ t0 ∷ t1 ∷ ((ft ++ top ∷ []) ++ rt) = is ∙ ap (λ l. t0 ∷ t1 ∷ l) (sym (append_assoc ft (top ∷ []) rt)) in
    let longer : suc (suc (suc (length front))) ≡ suc (suc (length (front ++ b ∷ []))) = omega (arith, length-append front (b ∷ [])) in
    let later = all_changed seen tops t told twelve q t0 t1 (ft ++ top ∷ []) rt tops-is x0 x1 (front ++ b ∷ []) rest other l0 l1 proto
    (within_append ft (top ∷ []) front (b ∷ []) wf (wo.0, tt)) wr.1 wo.1
    (subst (λ n. SeenFrom seen q n rest) longer sr.1) (subst (λ n. SeenFrom seen q n other) longer so.1) in
    let P : List ℕ → List ℕ → Type 0 = λ l m. value t (x0 ∷ x1 ∷ l) ≡ value t (x0 ∷ x1 ∷ m) in
    let moved : P (front ++ b ∷ other) (front ++ b ∷ rest) = subst (λ m. P (front ++ b ∷ other) m) (append_assoc front (b ∷ []) rest)
    (subst (λ l. P l ((front ++ b ∷ []) ++ rest)) (append_assoc front (b ∷ []) other) later) in
    moved ∙ first

-- two points with the same entry as which a packet is seen have the same value
pub same_value : {L : Type 0} → (seen : Seen) (tops : List ℕ) (t : Plain L) → IsTold seen tops t → length tops ≡ 12 → (q : Packet)
    → (t0 : ℕ) (rt : List ℕ) → tops ≡ t0 ∷ rt → (x0 : ℕ) (rest other : List ℕ) → x0 ≤ t0 → IsWithin rt rest → IsWithin rt other
    → SeenFrom seen q 1 rest → SeenFrom seen q 1 other → value t (x0 ∷ other) ≡ value t (x0 ∷ rest)
same_value seen tops t told twelve q t0 [] is x0 rest other l0 wr wo sr so = let n = ap length is in absurd (omega (arith, n, twelve))
same_value seen tops t told twelve q t0 (t1 ∷ rt) is x0 [] other l0 wr wo sr so = absurd wr
same_value seen tops t told twelve q t0 (t1 ∷ rt) is x0 (a ∷ rest) [] l0 wr wo sr so = absurd wo
same_value seen tops t told twelve q t0 (t1 ∷ rt) is x0 (a ∷ rest) (b ∷ other) l0 wr wo sr so =
    let ea : a ≡ q.proto = sr.0 q.proto refl (shown_proto seen q) in
    let eb : b ≡ q.proto = so.0 q.proto refl (shown_proto seen q) in
    let swap : b ≡ a = eb ∙ sym ea in
    ap (λ z. value t (x0 ∷ z ∷ other)) swap
    ∙ all_changed seen tops t told twelve q t0 t1 [] rt is x0 a [] rest other l0 wr.0 ea tt wr.1 wo.1 sr.1 so.1
