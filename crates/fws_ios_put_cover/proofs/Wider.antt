-- Boxes of which a field isn't asked any more.
use Rattle.std.proofs.Common.{◌≡◌, ◌≢◌, ℕ, suc, ◌<◌, ◌≤◌, Bool, true, false, ◌||◌, not, List, [], ◌∷◌, length, inl, inr, refl, sym, ◌∙◌, ap, subst, get_or-set_other, get_or-set_same, length-set}
use Rattle.std.proofs.lemmas.Bool.{cases_eq, false≢true, leb-true}
use Rattle.std.specs.Prelude.{nat_eq, nat_le, slice_index, slice_set}
use Rattle.fws_box.specs.Sides.{IsWithin, sides_have}
use Rattle.fws_iv.specs.declared.iv.Iv.{Iv}
use Rattle.fws_iv.specs.Ivs.{has}
use Rattle.fws_net.specs.declared.site.Site.{Site}
use Rattle.fws_net.specs.Fates.{has_ports}
use Rattle.fws_net.specs.Points.{tops_of}
use Rattle.fws_tree.specs.Plain.{Plain}
use Rattle.fws_ios_put_entries.specs.Paths.{number_of}
use Rattle.fws_ios_put_cover.specs.Boxes.{is_seen, is_whole, part, IsAsked}
use Rattle.fws_ios_put_cover.specs.Classes.{whole}
use Rattle.fws_ios_put_cover.specs.Inside.{asks_details, IsGoodBox, IsWidened, IsWider, Widens}
use Rattle.fws_ios_put_cover.proofs.Asked.{field_top, whole_has, whole_is, whole_low}
use Rattle.fws_ios_put_cover.proofs.Points.{have_at, have_from, within_at, within_length}

-- where the protocol isn't asked any more, nothing stands on it
pub record IsProtoFree (established : Bool) (old : List (List Iv)) : Type 0 where
  pub fresh : established ≡ false
  pub dport : is_whole 65535 (part old 3) ≡ true
  pub sport : is_whole 65535 (part old 5) ≡ true
  pub icmp : is_whole 255 (part old 7) ≡ true

pub same_wider : (established : Bool) (tops : List ℕ) (within : Plain Bool) (old : List (List Iv)) → IsGoodBox established tops within old → IsWider established tops within old old
same_wider established tops within old good = record { good = good; grows = λ x at h. h }

pub wider_then : (established : Bool) (tops : List ℕ) (within : Plain Bool) (a b c : List (List Iv)) → IsWider established tops within a b → IsWider established tops within b c → IsWider established tops within a c
wider_then established tops within a b c v w = record { good = w.good; grows = λ x at h. w.grows x at (v.grows x at h) }

module _ (site : Site) (established : Bool) (f : ℕ) (old new : List (List Iv)) (less : f < 12) (seen : is_seen f ≡ true) (proto : f ≡ 1 → IsProtoFree established old)
    (asked : IsAsked established (tops_of site) old) (is : new ≡ slice_set old f (whole (tops_of site) f)) where
  other : (g : ℕ) → g ≢ f → part new g ≡ part old g
  other g ne = ap (λ l. part l g) is ∙ get_or-set_other old f g (whole (tops_of site) f) [] ne

  here : part new f ≡ whole (tops_of site) f
  here = ap (λ l. part l f) is ∙ get_or-set_same old f (whole (tops_of site) f) [] (subst (λ n. f < n) (sym asked.twelve) less)

  -- a detail that is still asked
  detail : (g top : ℕ) → top ≡ slice_index (tops_of site) g → is_whole top (part new g) ≡ false → is_whole top (part old g) ≡ false
  detail g top e part_of = elim (cases_eq g f) [
    | inl same ↦ absurd (false≢true (sym part_of ∙ subst (λ k. is_whole top (part new k) ≡ true) (sym same)
        (subst (λ s. is_whole top s ≡ true) (sym here) (subst (λ n. is_whole top (record { lo = 0; hi = n } ∷ []) ≡ true) (e ∙ ap (λ k. slice_index (tops_of site) k) same) (whole_is top)))))
    | inr ne ↦ ap (λ s. is_whole top s) (sym (other g ne)) ∙ part_of
  ]

  -- what is known of the protocols where something stands on them
  stands : (Q : ℕ → Type 0) → (IsProtoFree established old → ⊥) → ((v : ℕ) → has (part old 1) v ≡ true → Q v) → (v : ℕ) → has (part new 1) v ≡ true → Q v
  stands Q asks q v it = elim (cases_eq 1 f) [
    | inl same ↦ absurd (asks (proto (sym same)))
    | inr ne ↦ q v (subst (λ s. has s v ≡ true) (other 1 ne) it)
  ]

  wider_asked : IsAsked established (tops_of site) new
  wider_asked = record {
    twelve = ap length is ∙ length-set old f (whole (tops_of site) f) ∙ asked.twelve;
    unseen = λ g small un v le. elim (cases_eq g f) [
      | inl same ↦ absurd (false≢true (sym un ∙ subst (λ k. is_seen k ≡ true) (sym same) seen))
      | inr ne ↦ subst (λ s. has s v ≡ true) (sym (other g ne)) (asked.unseen g small un v le)
    ];
    low = λ side v it. elim (cases_eq (number_of side) f) [
      | inl same ↦ (let at : has (whole (tops_of site) f) v ≡ true = subst (λ s. has s v ≡ true) (ap (λ k. part new k) same ∙ here) it in
          subst (λ n. v ≤ n) (ap (λ k. slice_index (tops_of site) k) (sym same) ∙ field_top site side) (whole_low (slice_index (tops_of site) f) v at))
      | inr ne ↦ asked.low side v (subst (λ s. has s v ≡ true) (other (number_of side) ne) it)
    ];
    dport = λ part_of. let old_part = detail 3 65535 refl part_of in stands (λ v. has_ports v ≡ true) (λ free. false≢true (sym old_part ∙ free.dport)) (asked.dport old_part);
    sport = λ part_of. let old_part = detail 5 65535 refl part_of in stands (λ v. has_ports v ≡ true) (λ free. false≢true (sym old_part ∙ free.sport)) (asked.sport old_part);
    icmp = λ part_of. let old_part = detail 7 255 refl part_of in stands (λ v. v ≡ 1) (λ free. false≢true (sym old_part ∙ free.icmp)) (asked.icmp old_part);
    tcp = λ e. stands (λ v. v ≡ 6) (λ free. false≢true (sym free.fresh ∙ e)) (asked.tcp e);
  }

  wider_grows : (x : List ℕ) → IsWithin (tops_of site) x → sides_have old x ≡ true → sides_have new x ≡ true
  wider_grows x at h = have_from new x (wider_asked.twelve ∙ sym (within_length (tops_of site) x at)) (λ g lt. elim (cases_eq g f) [
    | inl same ↦ subst (λ s. has s (slice_index x g) ≡ true) (sym (ap (λ k. part new k) same ∙ here))
        (whole_has (slice_index (tops_of site) f) (slice_index x g) (subst (λ k. slice_index x k ≤ slice_index (tops_of site) f) (sym same) (within_at (tops_of site) x f at)))
    | inr ne ↦ subst (λ s. has s (slice_index x g) ≡ true) (sym (other g ne)) (have_at old x g (subst (λ n. g < n) (wider_asked.twelve ∙ sym asked.twelve) lt) h)
  ])

pub widened_wider : (site : Site) (established : Bool) (within : Plain Bool) (f : ℕ) (old new : List (List Iv)) → nat_le (suc f) 12 ≡ true → is_seen f ≡ true → (f ≡ 1 → IsProtoFree established old)
    → IsWidened (tops_of site) within f old new → IsGoodBox established (tops_of site) within old → IsWider established (tops_of site) within old new
widened_wider site established within f old new less seen proto (inl same) good =
    subst (λ l. IsWider established (tops_of site) within old l) (sym same) (same_wider established (tops_of site) within old good)
widened_wider site established within f old new less seen proto (inr is) good = record {
  good = record { asked = wider_asked site established f old new (leb-true (suc f) 12 less) seen proto good.asked is.0; inside = is.1 };
  grows = wider_grows site established f old new (leb-true (suc f) 12 less) seen proto good.asked is.0;
}

-- ---- wider boxes whatever the site

widens_by : (established : Bool) (tops : List ℕ) (within : Plain Bool) (f : ℕ) (old new : List (List Iv)) → nat_le (suc f) 12 ≡ true → is_seen f ≡ true → (f ≡ 1 → IsProtoFree established old)
    → IsWidened tops within f old new → Widens established tops within old new
widens_by established tops within f old new less seen proto w site e =
    subst (λ t. IsGoodBox established t within old → IsWider established t within old new) (sym e)
    (widened_wider site established within f old new less seen proto (subst (λ t. IsWidened t within f old new) e w))

pub widens_then : (established : Bool) (tops : List ℕ) (within : Plain Bool) (a b c : List (List Iv)) → Widens established tops within a b → Widens established tops within b c → Widens established tops within a c
widens_then established tops within a b c v w site e good =
    let first = v site e good in wider_then established tops within a b c first (w site e first.good)

pub widens_same : (established : Bool) (tops : List ℕ) (within : Plain Bool) (old : List (List Iv)) → Widens established tops within old old
widens_same established tops within old site e good = same_wider established tops within old good

other_field : (f : ℕ) → nat_eq f 1 ≡ false → (old : List (List Iv)) (established : Bool) → f ≡ 1 → IsProtoFree established old
other_field f ne old established e = absurd (false≢true (sym ne ∙ subst (λ n. nat_eq n 1 ≡ true) (sym e) refl))

pub details_widen : (established : Bool) (tops : List ℕ) (within : Plain Bool) (a b c d : List (List Iv)) → IsWidened tops within 3 a b → IsWidened tops within 5 b c → IsWidened tops within 7 c d
    → Widens established tops within a d
details_widen established tops within a b c d v w u =
    widens_then established tops within a b d (widens_by established tops within 3 a b refl refl (other_field 3 refl a established) v)
    (widens_then established tops within b c d (widens_by established tops within 5 b c refl refl (other_field 5 refl b established) w)
    (widens_by established tops within 7 c d refl refl (other_field 7 refl c established) u))

pub addresses_widen : (established : Bool) (tops : List ℕ) (within : Plain Bool) (a b c : List (List Iv)) → IsWidened tops within 2 a b → IsWidened tops within 4 b c → Widens established tops within a c
addresses_widen established tops within a b c v w =
    widens_then established tops within a b c (widens_by established tops within 2 a b refl refl (other_field 2 refl a established) v)
    (widens_by established tops within 4 b c refl refl (other_field 4 refl b established) w)

pub proto_widens : (established : Bool) (tops : List ℕ) (within : Plain Bool) (a b : List (List Iv)) → established ≡ false → asks_details a ≡ false → IsWidened tops within 1 a b
    → Widens established tops within a b
proto_widens established tops within a b fresh none w = widens_by established tops within 1 a b refl refl (λ e. free) w
  where
    no_more : (x y z : Bool) → (not x || (not y || not z)) ≡ false → (x ≡ true) × (y ≡ true) × (z ≡ true)
    no_more true true true h = (refl, refl, refl)
    no_more true true false h = absurd (false≢true (sym h))
    no_more true false z h = absurd (false≢true (sym h))
    no_more false y z h = absurd (false≢true (sym h))

    free : IsProtoFree established a
    free = let k = no_more (is_whole 65535 (part a 3)) (is_whole 65535 (part a 5)) (is_whole 255 (part a 7)) none in record { fresh = fresh; dport = k.0; sport = k.1; icmp = k.2 }
