-- Lines of interfaces keep what holds of a draft.
use Rattle.std.proofs.Common.{◌≡◌, ℕ, ◌+◌, ◌<◌, ◌≤◌, Bool, true, false, ◌||◌, nat_eq, nat_le, Ok, Err, List, [], ◌∷◌, ◌++◌, map, length, IfOk, refl, ap, sym, subst, ◌∙◌, append-nil, arith, lit≤}
use Rattle.std.proofs.lemmas.Bool.{and_from, or_parts, or_from, leb-false, eq-eqb}
use Rattle.std.proofs.lemmas.List.{length_push}
use Rattle.std.specs.List.{list_any}
use Rattle.fws_num.specs.declared.word.Word.{Word}
use Rattle.fws_num.specs.Numbers.{QuadsAreDotted}
use Rattle.fws_net.specs.declared.cause.SiteCause.TheVariants.{Overlap, Names as NameTaken, Count}
use Rattle.fws_net.specs.declared.draft.Draft.{Draft}
use Rattle.fws_net.specs.declared.draft.Form.{Form}
use Rattle.fws_net.specs.declared.draft.Form.TheVariants.{First, Second}
use Rattle.fws_net.specs.declared.draft.Stage.{Stage}
use Rattle.fws_net.specs.declared.draft.Stage.TheVariants.{Interfaces}
use Rattle.fws_net.specs.declared.site.Address.{Address}
use Rattle.fws_net.specs.declared.site.Iface.{Iface}
use Rattle.fws_net.specs.declared.site.RouteLine.{RouteLine}
use Rattle.fws_net.specs.Routes.{net_line, nets_from}
use Rattle.fws_net.specs.SiteWords.{is_name, name_of, address_of}
use Rattle.fws_net.specs.SiteLaws.{addresses_of, are_names, are_apart}
use Rattle.fws_net.specs.SiteLines.{nets_meet, meets_loopback, meets_earlier, is_same_net, is_net_of_address, is_net_of_route, behind_face, face_with_address, face_alone, spelled_face, most_faces, name_taken, names_taken, face_overlaps, face_admitted, interface_step}
use Rattle.fws_net.proofs.Results.{then_known, either_holds}
use Rattle.fws_net.proofs.Inserted.{Inserted, pushed, in_back, all_inserted, pairs_inserted}
use Rattle.fws_net.proofs.PairTests.{nets_meet-sym, apart_symmetric, apart_addresses, apart_nets, none_all}
use Rattle.fws_net.proofs.SiteInvariant.{is_sound_address, is_spelled, AreAddressed, IsGrowing, IsOneEach, IsFormed, IsOrderlyDraft}
use Rattle.fws_net.proofs.SiteLists.{any_address, no_prefix, addresses_pushed, nets_pushed}
use Rattle.fws_net.proofs.SiteGrowth.{not_by, IsNewAddress, IsNewFace, addressed_more, routed_wider, named_more}
use Rattle.fws_net.proofs.SiteWordsHold.{IsName, BehindHolds, IsSoundRead, name_holds, behind_face_holds, address_holds}

-- What a line spells

-- an interface with one sound address
pub record IsFaceWithAddress (face : Iface) : Type 0 where
  pub spelled : is_spelled face ≡ true
  pub own : Address
  pub alone : face.addrs ≡ own ∷ []
  pub sound : is_sound_address own ≡ true

-- an interface without addresses
pub record IsFaceAlone (face : Iface) : Type 0 where
  pub spelled : is_spelled face ≡ true
  pub none : face.addrs ≡ []

abbrev pub IsFaceOf : Form → Iface → Type 0
IsFaceOf First face = IsFaceWithAddress face
IsFaceOf Second face = IsFaceAlone face

with_address_holds : QuadsAreDotted → (name net : Word) (ws : List Word) → IfOk (face_with_address name net ws) IsFaceWithAddress
unfolding face_with_address
with_address_holds q name net ws =
    then_known IsName IsFaceWithAddress (name_of name.text) _ (name_holds name.text) (λ text h.
    then_known IsSoundRead IsFaceWithAddress (address_of net.text) _ (address_holds q net.text) (λ own k.
    then_known BehindHolds IsFaceWithAddress (behind_face ws) _ (behind_face_holds ws) (λ rest l.
    record { spelled = and_from (is_name text) (are_names rest.0) h l; own = own; alone = refl; sound = k })))

alone_holds : (name : Word) (ws : List Word) → IfOk (face_alone name ws) IsFaceAlone
unfolding face_alone
alone_holds name ws =
    then_known IsName IsFaceAlone (name_of name.text) _ (name_holds name.text) (λ text h.
    then_known BehindHolds IsFaceAlone (behind_face ws) _ (behind_face_holds ws) (λ rest l.
    record { spelled = and_from (is_name text) (are_names rest.0) h l; none = refl }))

spelled_face_holds : QuadsAreDotted → (form : Form) (ws : List Word) → IfOk (spelled_face form ws) (IsFaceOf form)
spelled_face_holds q First (name ∷ net ∷ ws) = with_address_holds q name net ws
spelled_face_holds q First (name ∷ []) = tt
spelled_face_holds q First [] = tt
spelled_face_holds q Second (name ∷ ws) = alone_holds name ws
spelled_face_holds q Second [] = tt

-- What is admitted

pub record IsAdmitted (form : Form) (seen : List Iface) (face : Iface) : Type 0 where
  pub spelled : IsFaceOf form face
  pub apart : face_overlaps seen face ≡ false
  pub other : (name_taken seen face.name || names_taken seen face.names) ≡ false
  pub room : length seen < most_faces form

admitted_holds : (form : Form) (seen : List Iface) (face : Iface) → IsFaceOf form face → IfOk (face_admitted form seen face) (IsAdmitted form seen)
admitted_holds form seen face spelled =
    either_holds (IsAdmitted form seen) (face_overlaps seen face) (Err Overlap) _ (λ e. tt) (λ apart.
    either_holds (IsAdmitted form seen) (name_taken seen face.name || names_taken seen face.names) (Err NameTaken) _ (λ e. tt) (λ other.
    either_holds (IsAdmitted form seen) (nat_le (most_faces form) (length seen)) (Err Count) (Ok face) (λ e. tt) (λ room.
    record { spelled = spelled; apart = apart; other = other; room = leb-false (most_faces form) (length seen) room })))

-- An interface without addresses

addresses_alone : (faces : List Iface) (face : Iface) → face.addrs ≡ [] → addresses_of (faces ++ face ∷ []) ≡ addresses_of faces
addresses_alone faces face e = addresses_pushed faces face ∙ ap (λ list. addresses_of faces ++ list) e ∙ append-nil (addresses_of faces)

nets_alone : (n : ℕ) (faces : List Iface) (face : Iface) → face.addrs ≡ [] → nets_from n (faces ++ face ∷ []) ≡ nets_from n faces
nets_alone n faces face e =
    let more = nets_pushed n faces face in
    more.1 ∙ ap (λ list. nets_from n faces ++ map (net_line more.0) list) e ∙ append-nil (nets_from n faces)

grows_alone : (faces : List Iface) (routes : List RouteLine) (face : Iface) → face.addrs ≡ [] → IsNewFace face faces → IsGrowing faces routes → IsGrowing (faces ++ face ∷ []) routes
grows_alone faces routes face e new h =
    let longer : length (faces ++ face ∷ []) ≡ length faces + 1 = length_push faces face in
    let addressed : AreAddressed (addresses_of faces) (nets_from 2 (faces ++ face ∷ []) ++ routes) =
    subst (λ (nets : List RouteLine). AreAddressed (addresses_of faces) (nets ++ routes)) (sym (nets_alone 2 faces face e)) h.addressed in
    record {
      named = named_more face faces new h.named;
      addressed = subst (λ (owns : List Address). AreAddressed owns (nets_from 2 (faces ++ face ∷ []) ++ routes)) (sym (addresses_alone faces face e)) addressed;
      routed = routed_wider (length faces) (length (faces ++ face ∷ [])) routes (omega arith) h.routed;
    }

-- An interface with an address, in the first form

addresses_with : (faces : List Iface) (face : Iface) (own : Address) → face.addrs ≡ own ∷ [] → Inserted own (addresses_of faces) (addresses_of (faces ++ face ∷ []))
addresses_with faces face own e =
    let same : addresses_of faces ++ own ∷ [] ≡ addresses_of (faces ++ face ∷ []) = sym (addresses_pushed faces face ∙ ap (λ list. addresses_of faces ++ list) e) in
    subst (λ (owns : List Address). Inserted own (addresses_of faces) owns) same (pushed own (addresses_of faces))

nets_with : (n : ℕ) (faces : List Iface) (face : Iface) (own : Address) → face.addrs ≡ own ∷ []
    → (m : ℕ) × Inserted (net_line m own) (nets_from n faces) (nets_from n (faces ++ face ∷ []))
nets_with n faces face own e =
    let more = nets_pushed n faces face in
    let same : nets_from n faces ++ net_line more.0 own ∷ [] ≡ nets_from n (faces ++ face ∷ []) =
    sym (more.1 ∙ ap (λ list. nets_from n faces ++ map (net_line more.0) list) e) in
    (more.0, subst (λ (nets : List RouteLine). Inserted (net_line more.0 own) (nets_from n faces) nets) same (pushed (net_line more.0 own) (nets_from n faces)))

-- the network of the address meets none of an interface's
pub record IsApart (own : Address) (faces : List Iface) : Type 0 where
  pub earlier : list_any (λ other. nets_meet other own) (addresses_of faces) ≡ false
  pub off_loopback : meets_loopback own ≡ false

apart_of : (faces : List Iface) (face : Iface) (own : Address) → face.addrs ≡ own ∷ [] → face_overlaps faces face ≡ false → IsApart own faces
apart_of faces face own e h =
    let at : (list_any (λ own. meets_earlier faces own || meets_loopback own) (own ∷ [])) ≡ false =
    ap (list_any (λ own. meets_earlier faces own || meets_loopback own)) (sym e) ∙ h in
    let parts = or_parts (meets_earlier faces own || meets_loopback own) false at in
    let both = or_parts (meets_earlier faces own) (meets_loopback own) parts.0 in
    record { earlier = sym (any_address (λ other. nets_meet other own) faces) ∙ both.0; off_loopback = both.1 }

none_weaker : {A : Type 0} (p q : A → Bool) → ((y : A) → p y ≡ false → q y ≡ false) → (xs : List A) → list_any p xs ≡ false → list_any q xs ≡ false
none_weaker p q by [] h = refl
none_weaker p q by (x ∷ xs) h =
    let parts = or_parts (p x) (list_any p xs) h in
    or_from (q x) (list_any q xs) (by x parts.0) (none_weaker p q by xs parts.1)

grows_with : (faces : List Iface) (routes : List RouteLine) (face : Iface) (own : Address) → face.addrs ≡ own ∷ [] → is_sound_address own ≡ true → IsApart own faces
    → IsNewFace face faces → IsOneEach faces routes → IsGrowing faces routes → IsGrowing (faces ++ face ∷ []) routes
grows_with faces routes face own e sound apart new one h =
    let nets = nets_with 2 faces face own e in
    let longer : length (faces ++ face ∷ []) ≡ length faces + 1 = length_push faces face in
    let no_net : is_net_of_address faces own.addr own.len ≡ false =
    any_address (λ other. is_same_net other.addr other.len own.addr own.len) faces
    ∙ none_weaker (λ other. nets_meet other own) (λ other. is_same_net other.addr other.len own.addr own.len) (λ y k. apart_nets y own k) (addresses_of faces) apart.earlier in
    let no_route : is_net_of_route routes own.addr own.len ≡ false = ap (λ list. is_net_of_route list own.addr own.len) one.no_routes in
    let few : length faces ≤ 14 = one.few_faces in
    let counted : length (addresses_of faces) ≡ length faces = one.few_addresses in
    let fresh : IsNewAddress own (addresses_of faces) (nets_from 2 faces ++ routes) = record {
      sound = sound;
      other = none_weaker (λ other. nets_meet other own) (λ other. nat_eq other.addr own.addr) (λ y k. apart_addresses y own k) (addresses_of faces) apart.earlier;
      other_net = no_prefix own.addr own.len faces routes no_net no_route;
      off_loopback = apart.off_loopback;
      room = omega arith;
    } in
    record {
      named = named_more face faces new h.named;
      addressed = addressed_more own nets.0 (addresses_of faces) (addresses_of (faces ++ face ∷ [])) (nets_from 2 faces ++ routes) (nets_from 2 (faces ++ face ∷ []) ++ routes)
          (addresses_with faces face own e) (in_back (net_line nets.0 own) (nets_from 2 faces) (nets_from 2 (faces ++ face ∷ [])) routes nets.1) fresh h.addressed;
      routed = routed_wider (length faces) (length (faces ++ face ∷ [])) routes (omega arith) h.routed;
    }

one_each : (faces : List Iface) (routes : List RouteLine) (face : Iface) (own : Address) → face.addrs ≡ own ∷ [] → IsApart own faces → length faces < 14
    → IsOneEach faces routes → IsOneEach (faces ++ face ∷ []) routes
one_each faces routes face own e apart room h =
    let longer : length (faces ++ face ∷ []) ≡ length faces + 1 = length_push faces face in
    let owns : addresses_of (faces ++ face ∷ []) ≡ addresses_of faces ++ own ∷ [] = addresses_pushed faces face ∙ ap (λ list. addresses_of faces ++ list) e in
    let more : length (addresses_of (faces ++ face ∷ [])) ≡ length (addresses_of faces) + 1 = ap length owns ∙ length_push (addresses_of faces) own in
    let counted : length (addresses_of faces) ≡ length faces = h.few_addresses in
    record {
      few_faces = omega arith;
      few_addresses = omega arith;
      one_address = all_inserted (λ face. nat_eq (length face.addrs) 1) face faces (faces ++ face ∷ []) (pushed face faces) (eq-eqb (length face.addrs) 1 (ap length e)) h.one_address;
      no_routes = h.no_routes;
      networks_apart = pairs_inserted are_apart apart_symmetric own (addresses_of faces) (addresses_of (faces ++ face ∷ [])) (addresses_with faces face own e)
          (none_all (λ other. nets_meet other own) (are_apart own) (λ y k. not_by _ _ (nets_meet-sym own y) k) (addresses_of faces) apart.earlier) h.networks_apart;
    }

-- The line

new_face : (form : Form) (faces : List Iface) (face : Iface) → most_faces form ≤ 62 → is_spelled face ≡ true → IsAdmitted form faces face → IsNewFace face faces
new_face form faces face most spelled admitted = record {
  spelled = spelled;
  other = admitted.other;
  room = (let room : length faces < most_faces form = admitted.room in let lt : length faces < 62 = omega arith in lt);
}

-- what a further interface leaves
pub record IsWithFace (form : Form) (faces : List Iface) (routes : List RouteLine) : Type 0 where
  pub growing : IsGrowing faces routes
  pub formed : IsFormed form Interfaces faces routes

face_kept : (form : Form) (stage : Stage) (faces : List Iface) (routes : List RouteLine) (face : Iface) → IsAdmitted form faces face → IsFormed form stage faces routes → IsGrowing faces routes
    → IsWithFace form (faces ++ face ∷ []) routes
face_kept First stage faces routes face admitted formed h =
    let with = admitted.spelled in
    let apart = apart_of faces face with.own with.alone admitted.apart in
    record {
      growing = grows_with faces routes face with.own with.alone with.sound apart (new_face First faces face (lit≤ tt) with.spelled admitted) formed.1 h;
      formed = (tt, one_each faces routes face with.own with.alone apart admitted.room formed.1);
    }
face_kept Second stage faces routes face admitted formed h =
    let alone = admitted.spelled in
    record {
      growing = grows_alone faces routes face alone.none (new_face Second faces face (lit≤ tt) alone.spelled admitted) h;
      formed = tt;
    }

pub interface_kept : QuadsAreDotted → (ws : List Word) (d : Draft) → d.site.routes ≡ [] → IsOrderlyDraft d → IfOk (interface_step ws d) IsOrderlyDraft
unfolding interface_step
interface_kept q ws d none h =
    then_known (IsFaceOf d.form) IsOrderlyDraft (spelled_face d.form ws) _ (spelled_face_holds q d.form ws) (λ spelled k.
    then_known (IsAdmitted d.form d.site.faces) IsOrderlyDraft (face_admitted d.form d.site.faces spelled) _ (admitted_holds d.form d.site.faces spelled k) (λ face admitted.
    let kept = face_kept d.form d.stage d.site.faces d.site.routes face admitted h.formed h.growing in
    record { growing = kept.growing; formed = kept.formed; settled = none }))
