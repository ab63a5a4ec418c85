-- Points of packets and ends.
use Rattle.std.proofs.Common.{◌≡◌, ℕ, zero, suc, ◌+◌, ◌<◌, ◌≤◌, List, [], ◌∷◌, refl, sym, ◌∙◌, ap, subst, arith, length, get_or}
use Rattle.std.proofs.lemmas.List.FromFn.{fill_by_all}
use Rattle.fws_box.specs.Sides.{IsWithin}
use Rattle.fws_net.specs.declared.connection.Rec.{Rec}
use Rattle.fws_net.specs.declared.packet.Packet.{Packet}
use Rattle.fws_net.specs.declared.site.Site.{Site}
use Rattle.fws_net.specs.Points.{tops_of, packet_of}
use Rattle.fws_net.specs.Routes.{IsSound}
use Rattle.fws_tree.specs.Changed.{Agree}
use Rattle.fws_place.specs.Meaning.{point_of, rec_of, widest}
use Rattle.fws_place.specs.Pairs.{LookAlike}

pub within_length : (tops p : List ℕ) → IsWithin tops p → length p ≡ length tops
within_length [] [] w = refl
within_length [] (x ∷ p) w = absurd w
within_length (top ∷ tops) [] w = absurd w
within_length (top ∷ tops) (x ∷ p) w = ap suc (within_length tops p w.1)

-- a value is no greater than its top
pub within_top : (tops p : List ℕ) (k : ℕ) → IsWithin tops p → k < length tops → get_or p k 0 ≤ get_or tops k 0
within_top [] p k w lt = absurd (omega arith)
within_top (top ∷ tops) [] k w lt = absurd w
within_top (top ∷ tops) (x ∷ p) zero w lt = w.0
within_top (top ∷ tops) (x ∷ p) (suc k) w lt = within_top tops p k w.1 (omega arith)

-- twelve values are those of a packet and ends
pub twelve_values : (q : List ℕ) → length q ≡ 12 → point_of (packet_of q) (rec_of q) ≡ q
twelve_values q n = sym (fill_by_all (λ k. get_or q k 0) q 12 0 n (λ k lt. refl))

-- a point of a site is that of its packet and its ends
pub point_back : (site : Site) (q : List ℕ) → IsWithin (tops_of site) q → point_of (packet_of q) (rec_of q) ≡ q
point_back site q w = twelve_values q (within_length (tops_of site) q w)

-- packets and ends have room for the values
pub roomy : (site : Site) → IsSound site → (q : List ℕ) → IsWithin (tops_of site) q → IsWithin widest q
roomy site sound q w =
    let at : (k : ℕ) → k < 12 → get_or q k 0 ≤ get_or (tops_of site) k 0 = λ k lt. within_top (tops_of site) q k w lt in
    let entry : get_or q 0 0 ≤ 255 = (let le : get_or q 0 0 ≤ length site.faces + 1 = at 0 (omega arith) in let few : length site.faces ≤ 62 = sound.few_faces in omega arith) in
    let flags : get_or q 6 0 ≤ 255 = (let le : get_or q 6 0 ≤ 63 = at 6 (omega arith) in omega arith) in
    subst (λ l. IsWithin widest l) (point_back site q w) (
      entry,
      (
        at 1 (omega arith),
        (
          at 2 (omega arith),
          (
            at 3 (omega arith),
            (
              at 4 (omega arith),
              (
                at 5 (omega arith),
                (
                  flags,
                  (
                    at 7 (omega arith),
                    (at 8 (omega arith), (at 9 (omega arith), (at 10 (omega arith), (at 11 (omega arith), tt)))),
                  ),
                ),
              ),
            ),
          ),
        ),
      ),
    )

-- Points that agree

-- in all but the ends
pub same_packet : (p : Packet) (r : Rec) (q : List ℕ) → length q ≡ 12 → Agree 3840 (point_of p r) q → point_of p (rec_of q) ≡ q
same_packet p r q n same =
    let e0 : p.entry ≡ get_or q 0 0 = same 0 refl in
    let e1 : p.proto ≡ get_or q 1 0 = same 1 refl in
    let e2 : p.dst ≡ get_or q 2 0 = same 2 refl in
    let e3 : p.dport ≡ get_or q 3 0 = same 3 refl in
    let e4 : p.src ≡ get_or q 4 0 = same 4 refl in
    let e5 : p.sport ≡ get_or q 5 0 = same 5 refl in
    let e6 : p.flags ≡ get_or q 6 0 = same 6 refl in
    let e7 : p.icmp ≡ get_or q 7 0 = same 7 refl in
    (cc) ∙ twelve_values q n

pub agree_packet : (p : Packet) (r s : Rec) → Agree 3840 (point_of p r) (point_of p s)
agree_packet p r s zero n = refl
agree_packet p r s (suc zero) n = refl
agree_packet p r s (suc (suc zero)) n = refl
agree_packet p r s (suc (suc (suc zero))) n = refl
agree_packet p r s (suc (suc (suc (suc zero)))) n = refl
agree_packet p r s (suc (suc (suc (suc (suc zero))))) n = refl
agree_packet p r s (suc (suc (suc (suc (suc (suc zero)))))) n = refl
agree_packet p r s (suc (suc (suc (suc (suc (suc (suc zero))))))) n = refl
agree_packet p r s (suc (suc (suc (suc (suc (suc (suc (suc zero)))))))) n = absurd (cc)
agree_packet p r s (suc (suc (suc (suc (suc (suc (suc (suc (suc zero))))))))) n = absurd (cc)
agree_packet p r s (suc (suc (suc (suc (suc (suc (suc (suc (suc (suc zero)))))))))) n = absurd (cc)
agree_packet p r s (suc (suc (suc (suc (suc (suc (suc (suc (suc (suc (suc zero))))))))))) n = absurd (cc)
agree_packet p r s (suc (suc (suc (suc (suc (suc (suc (suc (suc (suc (suc (suc f)))))))))))) n = refl

-- in what a rule behind routing sees
pub agree_alike : (p : Packet) (r : Rec) (q : Packet) (s : Rec) → LookAlike p r q s → Agree 3084 (point_of p r) (point_of q s)
agree_alike p r q s l zero n = l.entry
agree_alike p r q s l (suc zero) n = l.proto
agree_alike p r q s l (suc (suc zero)) n = absurd (cc)
agree_alike p r q s l (suc (suc (suc zero))) n = absurd (cc)
agree_alike p r q s l (suc (suc (suc (suc zero)))) n = l.src
agree_alike p r q s l (suc (suc (suc (suc (suc zero))))) n = l.sport
agree_alike p r q s l (suc (suc (suc (suc (suc (suc zero)))))) n = l.flags
agree_alike p r q s l (suc (suc (suc (suc (suc (suc (suc zero))))))) n = l.icmp
agree_alike p r q s l (suc (suc (suc (suc (suc (suc (suc (suc zero)))))))) n = l.rdst
agree_alike p r q s l (suc (suc (suc (suc (suc (suc (suc (suc (suc zero))))))))) n = l.rdport
agree_alike p r q s l (suc (suc (suc (suc (suc (suc (suc (suc (suc (suc zero)))))))))) n = absurd (cc)
agree_alike p r q s l (suc (suc (suc (suc (suc (suc (suc (suc (suc (suc (suc zero))))))))))) n = absurd (cc)
agree_alike p r q s l (suc (suc (suc (suc (suc (suc (suc (suc (suc (suc (suc (suc f)))))))))))) n = refl

pub look_alike : (p : Packet) (r : Rec) (q : List ℕ) → Agree 3084 (point_of p r) q → LookAlike p r (packet_of q) (rec_of q)
look_alike p r q same = record {
  entry = same 0 refl;
  proto = same 1 refl;
  src = same 4 refl;
  sport = same 5 refl;
  flags = same 6 refl;
  icmp = same 7 refl;
  rdst = same 8 refl;
  rdport = same 9 refl;
}
