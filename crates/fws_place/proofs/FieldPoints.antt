-- Points of packets and ends in which a field is changed.
use Rattle.std.proofs.Common.{◌≡◌, ℕ, zero, suc, ◌≤◌, List, [], ◌∷◌, slice_index, slice_set, refl}
use Rattle.fws_box.specs.Sides.{IsWithin}
use Rattle.fws_net.specs.declared.connection.Rec.{Rec}
use Rattle.fws_net.specs.declared.packet.Packet.{Packet}
use Rattle.fws_place.specs.Meaning.{point_of}

-- a field is changed
pub set_within : (tops x : List ℕ) (f v : ℕ) → IsWithin tops x → v ≤ slice_index tops f → IsWithin tops (slice_set x f v)
set_within [] [] f v within le = within
set_within [] (a ∷ x) f v within le = absurd within
set_within (top ∷ tops) [] f v within le = absurd within
set_within (top ∷ tops) (a ∷ x) zero v within le = (le, within.1)
set_within (top ∷ tops) (a ∷ x) (suc f) v within le = (within.0, set_within tops x f v within.1 le)

abbrev pub with_field : ℕ → ℕ → Packet → Packet
with_field zero v p = record p { entry = v }
with_field (suc zero) v p = record p { proto = v }
with_field (suc (suc zero)) v p = record p { dst = v }
with_field (suc (suc (suc zero))) v p = record p { dport = v }
with_field (suc (suc (suc (suc zero)))) v p = record p { src = v }
with_field (suc (suc (suc (suc (suc zero))))) v p = record p { sport = v }
with_field (suc (suc (suc (suc (suc (suc zero)))))) v p = record p { flags = v }
with_field (suc (suc (suc (suc (suc (suc (suc zero))))))) v p = record p { icmp = v }
with_field f v p = p

abbrev pub with_end : ℕ → ℕ → Rec → Rec
with_end (suc (suc (suc (suc (suc (suc (suc (suc zero)))))))) v r = record r { rdst = v }
with_end (suc (suc (suc (suc (suc (suc (suc (suc (suc zero))))))))) v r = record r { rdport = v }
with_end (suc (suc (suc (suc (suc (suc (suc (suc (suc (suc zero)))))))))) v r = record r { rsrc = v }
with_end (suc (suc (suc (suc (suc (suc (suc (suc (suc (suc (suc zero))))))))))) v r = record r { rsport = v }
with_end f v r = r

-- one field after another
pub at_field : (D : ℕ → Type 0) → D 0 → D 1 → D 2 → D 3 → D 4 → D 5 → D 6 → D 7 → D 8 → D 9 → D 10 → D 11 → ((n : ℕ) → D (suc (suc (suc (suc (suc (suc (suc (suc (suc (suc (suc (suc n))))))))))))) → (f : ℕ) → D f
at_field D d0 d1 d2 d3 d4 d5 d6 d7 d8 d9 d10 d11 more zero = d0
at_field D d0 d1 d2 d3 d4 d5 d6 d7 d8 d9 d10 d11 more (suc zero) = d1
at_field D d0 d1 d2 d3 d4 d5 d6 d7 d8 d9 d10 d11 more (suc (suc zero)) = d2
at_field D d0 d1 d2 d3 d4 d5 d6 d7 d8 d9 d10 d11 more (suc (suc (suc zero))) = d3
at_field D d0 d1 d2 d3 d4 d5 d6 d7 d8 d9 d10 d11 more (suc (suc (suc (suc zero)))) = d4
at_field D d0 d1 d2 d3 d4 d5 d6 d7 d8 d9 d10 d11 more (suc (suc (suc (suc (suc zero))))) = d5
at_field D d0 d1 d2 d3 d4 d5 d6 d7 d8 d9 d10 d11 more (suc (suc (suc (suc (suc (suc zero)))))) = d6
at_field D d0 d1 d2 d3 d4 d5 d6 d7 d8 d9 d10 d11 more (suc (suc (suc (suc (suc (suc (suc zero))))))) = d7
at_field D d0 d1 d2 d3 d4 d5 d6 d7 d8 d9 d10 d11 more (suc (suc (suc (suc (suc (suc (suc (suc zero)))))))) = d8
at_field D d0 d1 d2 d3 d4 d5 d6 d7 d8 d9 d10 d11 more (suc (suc (suc (suc (suc (suc (suc (suc (suc zero))))))))) = d9
at_field D d0 d1 d2 d3 d4 d5 d6 d7 d8 d9 d10 d11 more (suc (suc (suc (suc (suc (suc (suc (suc (suc (suc zero)))))))))) = d10
at_field D d0 d1 d2 d3 d4 d5 d6 d7 d8 d9 d10 d11 more (suc (suc (suc (suc (suc (suc (suc (suc (suc (suc (suc zero))))))))))) = d11
at_field D d0 d1 d2 d3 d4 d5 d6 d7 d8 d9 d10 d11 more (suc (suc (suc (suc (suc (suc (suc (suc (suc (suc (suc (suc n)))))))))))) = more n

-- a point with a field changed is that of a packet and ends with the field changed
pub set_is : (p : Packet) (r : Rec) (v f : ℕ) → slice_set (point_of p r) f v ≡ point_of (with_field f v p) (with_end f v r)
set_is p r v = at_field (λ f. slice_set (point_of p r) f v ≡ point_of (with_field f v p) (with_end f v r))
    refl refl refl refl refl refl refl refl refl refl refl refl (λ n. refl)
