-- The lists of a policy, of trees whose choices are made of what other trees hold.
use Rattle.std.proofs.Common.{◌≡◌, ◌≢◌, inl, inr, ℕ, zero, suc, ◌+◌, ◌<◌, ◌≤◌, Bool, true, false, cond, ◌&&◌, ◌||◌, not, nat_eq, Option, Some, None, List, [], ◌∷◌, ◌++◌, length, slice_index, slice_set, arith, refl, sym, ap, ◌∙◌, subst, append_assoc}
use Rattle.std.proofs.lemmas.Bool.{false≢true, lt-ltb, le-leb}
use Rattle.std.specs.Option.{option_map, option_map_or}
use Rattle.fws_box.specs.Sides.{IsWithin}
use Rattle.fws_net.specs.declared.outcome.End.{End}
use Rattle.fws_net.specs.declared.outcome.Outcome.{Outcome}
use Rattle.fws_net.specs.declared.outcome.Outcome.TheVariants.{Drop, Accept}
use Rattle.fws_net.specs.declared.packet.Packet.{Packet}
use Rattle.fws_net.specs.declared.site.Site.{Site}
use Rattle.fws_net.specs.Points.{tops_of}
use Rattle.fws_net.specs.Routes.{is_local}
use Rattle.fws_tree.specs.Plain.{Plain, leaf, value, value_from}
use Rattle.fws_ipfw.specs.declared.config.IpfwRule.{IpfwRule}
use Rattle.fws_ipfw_put_rules.specs.declared.choice.Choice.{Choice}
use Rattle.fws_ipfw_put_rules.specs.declared.choice.Choice.TheVariants as choices
use Rattle.fws_ipfw_put_rules.specs.declared.choice.Section.{Section}
use Rattle.fws_ipfw_put_rules.specs.Lists.{FitsAt, IsList, fits_at, is_tag}
use Rattle.fws_tree_seen.specs.declared.seen.Seen.{Seen}
use Rattle.fws_tree_seen.specs.declared.seen.Seen.TheVariants.{Routed}
use Rattle.fws_tree_seen.specs.Shown.{IsTold, has_field, shown}
use Rattle.fws_tree_seen.specs.SightLaws.{HasImages, RelabelledTreesAreTold}
use Rattle.fws_ipfw_put.specs.Guards.{IsFullGuard, IsGuard, IsImageList, IsMet, is_unmet}
use Rattle.fws_ipfw_put.specs.Laid.{AreRules}
use Rattle.fws_ipfw_put.specs.Layout.{arriving_choice, destination_rules, destined, known_arriving, known_forwarded, known_sent, leaving_rules, lookup_rules, new_arriving, new_sent, passing, place_of, sent_by, sent_choice, source_rules, tag_of}
use Rattle.fws_ipfw_put.proofs.Nats.{some_is}
use Rattle.fws_ipfw_put.proofs.Places.{place_low}

-- a tree of one leaf has its value everywhere
pub leaf_value : {L : Type 0} (f : ℕ) (a : L) (p : List ℕ) → value_from f (leaf a) p ≡ Some a
leaf_value f a [] = refl
leaf_value f a (x ∷ p) = leaf_value (suc f) a p

-- Choices fit

pub passing_fits : (n : ℕ) → n < 5000 → (b : Bool) → fits_at n (passing b) ≡ true
passing_fits n low true = rw (lt-ltb n 5000 low) refl
passing_fits n low false = refl

tag_fits : (ss : List End) → length ss ≤ 60000 → (src : Option End) → is_tag (tag_of ss src) ≡ true
tag_fits ss few None = refl
tag_fits ss few (Some e) = by_place (place_of ss e) refl where
  by_place : (o : Option ℕ) → place_of ss e ≡ o → is_tag (option_map (λ j. j + 2) o) ≡ true
  by_place None is = refl
  by_place (Some j) is =
      let low = place_low ss e j is in
      rw (lt-ltb 0 (j + 2) (omega arith), le-leb (j + 2) 65534 (omega (arith, low, few))) refl

pub arriving_fits : (ds ss : List End) → length ds ≤ 4096 → length ss ≤ 60000 → (o : Outcome) → fits_at 6000 (arriving_choice ds ss o) ≡ true
arriving_fits ds ss few many Drop = refl
arriving_fits ds ss few many (Accept w) = by_destination w.dst where
  by_place : (e : End) (o : Option ℕ) → place_of ds e ≡ o → fits_at 6000 (option_map_or (λ i. choices.Skip (10000 + i) (tag_of ss w.src)) o choices.Deny) ≡ true
  by_place e None is = refl
  by_place e (Some i) is =
      let low = place_low ds e i is in
      rw (lt-ltb 6000 (10000 + i) (omega arith), le-leb (10000 + i) 65534 (omega (arith, low, few))) (tag_fits ss many w.src)

  by_destination : (dst : Option End) → fits_at 6000 (destined ds dst (tag_of ss w.src)) ≡ true
  by_destination None = tag_fits ss many w.src
  by_destination (Some e) = by_place e (place_of ds e) refl

pub sent_fits : (ss : List End) → length ss ≤ 60000 → (o : Outcome) → fits_at 7000 (sent_choice ss o) ≡ true
sent_fits ss many Drop = refl
sent_fits ss many (Accept w) = by_tag (tag_of ss w.src) (tag_fits ss many w.src) where
  by_tag : (tag : Option ℕ) → is_tag tag ≡ true → fits_at 7000 (sent_by tag) ≡ true
  by_tag None h = refl
  by_tag (Some n) h = h

-- Lists of images

module _ {L : Type 0} (tops tree_tops : List ℕ) (gives : L → Choice) (t : Plain L) (made_tops : List ℕ) (made : Plain Choice) (same : tree_tops ≡ tops) (made_same : made_tops ≡ tree_tops)
    (images : (p : List ℕ) → IsWithin tree_tops p → (a : L) × (value t p ≡ Some a) × (value made p ≡ Some (gives a))) where
  are_images : HasImages tops gives t made
  are_images = subst (λ ts. HasImages ts gives t made) same images

  pub images_told : (seen : Seen) → RelabelledTreesAreTold L Choice → IsTold seen tops t → IsTold seen made_tops made
  images_told seen law told = subst (λ ts. IsTold seen ts made) (sym (made_same ∙ same)) (law seen tops gives t made are_images told)

  pub images_fit : (number : ℕ) → ((a : L) → fits_at number (gives a) ≡ true) → FitsAt made_tops number made
  images_fit number fits = subst (λ ts. FitsAt ts number made) (sym (made_same ∙ same))
      (λ p choice within is. let at = are_images p within in subst (λ x. fits_at number x ≡ true) (some_is (sym at.2 ∙ is)) (fits at.0))

pub list_made : {L : Type 0} (site : Site) (section : Section) (gives : L → Choice) (t : Plain L) (tree_tops made_tops : List ℕ) (made : Plain Choice) (old new : List IpfwRule)
    → tree_tops ≡ tops_of site → made_tops ≡ tree_tops
    → ((p : List ℕ) → IsWithin tree_tops p → (a : L) × (value t p ≡ Some a) × (value made p ≡ Some (gives a)))
    → (block : List IpfwRule) × (new ≡ old ++ block) × IsList site made_tops section made block
    → (block : List IpfwRule) × (new ≡ old ++ block) × IsImageList site section gives t block
list_made site section gives t tree_tops made_tops made old new same made_same images l = (
  l.0,
  l.1,
  record {
    choices = made;
    made = are_images (tops_of site) tree_tops gives t made_tops made same made_same images;
    list = subst (λ ts. IsList site ts section made l.0) (made_same ∙ same) l.2;
  },
)

-- Blocks behind blocks

two_blocks : (old a b one two : List IpfwRule) → one ≡ old ++ a → two ≡ one ++ b → two ≡ old ++ (a ++ b)
two_blocks old a b one two first second = second ∙ ap (λ l. l ++ b) first ∙ append_assoc old a b

pub full_guard : (site : Site) (packet behind : Plain Bool) (old one two three four : List IpfwRule)
    → (block : List IpfwRule) × (one ≡ old ++ block) × IsImageList site known_arriving passing packet block
    → two ≡ one ++ leaving_rules site
    → (block : List IpfwRule) × (three ≡ two ++ block) × IsImageList site known_forwarded passing behind block
    → (block : List IpfwRule) × (four ≡ three ++ block) × IsImageList site known_sent passing behind block
    → (block : List IpfwRule) × (four ≡ old ++ block) × IsFullGuard site packet behind block
full_guard site packet behind old one two three four a leaving f s =
    let first = two_blocks old a.0 (leaving_rules site) one two a.1 leaving in
    let second = two_blocks old (a.0 ++ leaving_rules site) f.0 two three first f.1 in (
      a.0 ++ leaving_rules site ++ f.0 ++ s.0,
      two_blocks old (a.0 ++ leaving_rules site ++ f.0) s.0 three four second s.1,
      record { arriving = a.0; forwarded = f.0; sent = s.0; arriving_list = a.2; forwarded_list = f.2; sent_list = s.2; are = refl },
    )

-- The tree that is painted

other_stays : (x : List ℕ) (f k v : ℕ) → f ≢ k → slice_index (slice_set x f v) k ≡ slice_index x k
other_stays [] f k v other = refl
other_stays (a ∷ x) zero zero v other = absurd (other refl)
other_stays (a ∷ x) zero (suc k) v other = refl
other_stays (a ∷ x) (suc f) zero v other = refl
other_stays (a ∷ x) (suc f) (suc k) v other = other_stays x f k v (λ same. other (ap suc same))

set_within : (tops x : List ℕ) (f v : ℕ) → IsWithin tops x → v ≤ slice_index tops f → IsWithin tops (slice_set x f v)
set_within [] [] f v within le = within
set_within [] (a ∷ x) f v within le = absurd within
set_within (top ∷ tops) [] f v within le = absurd within
set_within (top ∷ tops) (a ∷ x) zero v within le = (le, within.1)
set_within (top ∷ tops) (a ∷ x) (suc f) v within le = (within.0, set_within tops x f v within.1 le)

-- whether a pair is painted doesn't change with a field that is neither the entry nor the destination of the connection
unmet_same : (site : Site) (x : List ℕ) (f v : ℕ) → f ≢ 0 → f ≢ 8 → is_unmet site (slice_set x f v) ≡ is_unmet site x
unmet_same site x f v entry dst =
    ap (λ e. not (nat_eq e 0) && (is_local site (slice_index (slice_set x f v) 8) || not site.forwarding)) (other_stays x f 0 v entry)
    ∙ ap (λ a. not (nat_eq (slice_index x 0) 0) && (is_local site a || not site.forwarding)) (other_stays x f 8 v dst)

met_same : (site : Site) (t u : Plain Bool) → IsMet site t u → (x : List ℕ) (f v : ℕ) → f ≢ 0 → f ≢ 8 → IsWithin (tops_of site) x → v ≤ slice_index (tops_of site) f
    → value t (slice_set x f v) ≡ value t x → value u (slice_set x f v) ≡ value u x
met_same site t u met x f v entry dst within le same =
    met (slice_set x f v) (set_within (tops_of site) x f v within le)
    ∙ ap (λ b. cond b (Some true) (value t (slice_set x f v))) (unmet_same site x f v entry dst)
    ∙ ap (λ o. cond (is_unmet site x) (Some true) o) same
    ∙ sym (met x within)

shows_none : {v : ℕ} → Some v ≡ None → ⊥
shows_none h = cc

pub met_told : (site : Site) (t u : Plain Bool) → IsMet site t u → IsTold Routed (tops_of site) t → IsTold Routed (tops_of site) u
met_told site t u met told = record {
  lacking = λ f x within lacks v le.
      met_same site t u met x f v (λ is. has_entry (slice_index x 1) f is lacks) (λ is. has_dst (slice_index x 1) f is lacks) within le (told.lacking f x within lacks v le);
  unseen = λ f x low high hidden within v le.
      met_same site t u met x f v (λ is. omega (arith, is, low)) (λ is. sees_dst f is hidden) within le (told.unseen f x low high hidden within v le);
} where
  has_entry : (proto f : ℕ) → f ≡ 0 → has_field proto f ≡ false → ⊥
  has_entry proto f is lacks = false≢true (sym (subst (λ g. has_field proto g ≡ false) is lacks))

  has_dst : (proto f : ℕ) → f ≡ 8 → has_field proto f ≡ false → ⊥
  has_dst proto f is lacks = false≢true (sym (subst (λ g. has_field proto g ≡ false) is lacks))

  any_packet : Packet
  any_packet = record { entry = 0; proto = 0; dst = 0; dport = 0; src = 0; sport = 0; flags = 0; icmp = 0 }

  sees_dst : (f : ℕ) → f ≡ 8 → ((q : Packet) → shown Routed f q ≡ None) → ⊥
  sees_dst f is hidden = shows_none (subst (λ g. shown Routed g any_packet ≡ None) is (hidden any_packet))

-- The rules of a policy, put one behind the other

pub rules_laid : (site : Site) (fresh : Plain Outcome) (packet behind : Plain Bool) (ds ss put_ds put_ss : List End) (start guarded looked_up listed sent whole : List IpfwRule)
    → start ≡ [] → put_ds ≡ ds → put_ss ≡ ss
    → (block : List IpfwRule) × (guarded ≡ start ++ block) × IsGuard site packet behind block
    → looked_up ≡ guarded ++ lookup_rules
    → (block : List IpfwRule) × (listed ≡ looked_up ++ block) × IsImageList site new_arriving (arriving_choice ds ss) fresh block
    → (block : List IpfwRule) × (sent ≡ listed ++ block) × IsImageList site new_sent (sent_choice ss) fresh block
    → whole ≡ sent ++ destination_rules 0 put_ds ++ source_rules (length put_ds) 0 put_ss
    → AreRules site fresh packet behind ds ss whole
rules_laid site fresh packet behind ds ss put_ds put_ss start guarded looked_up listed sent whole none same_ds same_ss g l a s e = record {
  guard = g.0;
  arriving = a.0;
  sent = s.0;
  guarded = g.2;
  arriving_list = a.2;
  sent_list = s.2;
  are = e
      ∙ ap (λ d. sent ++ destination_rules 0 d ++ source_rules (length d) 0 put_ss) same_ds
      ∙ ap (λ k. sent ++ destination_rules 0 ds ++ source_rules (length ds) 0 k) same_ss
      ∙ ap (λ r. r ++ destination_rules 0 ds ++ source_rules (length ds) 0 ss) (s.1 ∙ ap (λ r. r ++ s.0) (a.1 ∙ ap (λ r. r ++ a.0) (l ∙ ap (λ r. r ++ lookup_rules) (g.1 ∙ ap (λ r. r ++ g.0) none))));
}

pub nothing_put : (site : Site) (packet behind : Plain Bool) (old : List IpfwRule) → ((x : List ℕ) → value packet x ≡ Some true) → ((x : List ℕ) → value behind x ≡ Some true)
    → (block : List IpfwRule) × (old ≡ old ++ block) × IsGuard site packet behind block
nothing_put site packet behind old first second = ([], sym (nil_behind old), inl (record { none = refl; packet_true = λ x within. first x; behind_true = λ x within. second x })) where
  nil_behind : (rules : List IpfwRule) → rules ++ [] ≡ rules
  nil_behind [] = refl
  nil_behind (r ∷ rules) = ap (λ rs. r ∷ rs) (nil_behind rules)

pub full_put : (site : Site) (packet behind : Plain Bool) (old new : List IpfwRule) → (block : List IpfwRule) × (new ≡ old ++ block) × IsFullGuard site packet behind block
    → (block : List IpfwRule) × (new ≡ old ++ block) × IsGuard site packet behind block
full_put site packet behind old new f = (f.0, f.1, inr f.2)
