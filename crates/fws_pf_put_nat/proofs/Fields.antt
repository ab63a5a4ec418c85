-- What is shown of a packet's fields.
use Rattle.std.proofs.Common.{◌≡◌, ℕ, ◌≤◌, Bool, true, false, cond, Option, Some, None, List, [], ◌∷◌, refl, sym, subst, arith}
use Rattle.std.proofs.lemmas.Bool.{cond_both, eqb-true, false≢true}
use Rattle.std.proofs.lemmas.Option.{none-some, same_Some}
use Rattle.std.specs.Option.{option_map}
use Rattle.std.specs.Prelude.{◌-◌, ◌^◌, nat_eq, slice_index}
use Rattle.fws_box.specs.Sides.{IsWithin}
use Rattle.fws_net.specs.declared.packet.Packet.{Packet}
use Rattle.fws_net.specs.declared.site.Site.{Site}
use Rattle.fws_net.specs.Fates.{has_ports}
use Rattle.fws_net.specs.Points.{tops_of}
use Rattle.fws_tree_seen.specs.declared.field.PacketField.{PacketField}
use Rattle.fws_tree_seen.specs.declared.field.PacketField.TheVariants.{Proto, Dst, Dport, Src, Sport, Flags, Icmp}
use Rattle.fws_tree_seen.specs.declared.seen.Seen.TheVariants.{Entered}
use Rattle.fws_tree_seen.specs.Reached.{IsTopped}
use Rattle.fws_tree_seen.specs.Shown.{field_of, has_field, shown, value_of, IsSeenAs}

at_number : (P : ℕ → Option PacketField → Type 0) (n f : ℕ) (x y : Option PacketField) → P n x → P f y → P f (cond (nat_eq f n) x y)
at_number P n f x y a b = cond_both (nat_eq f n) x y (P f) (λ e. subst (λ k. P k x) (sym (eqb-true f n e)) a) (λ e. b)

-- what holds of each field by its number
pub field_cases : (P : ℕ → Option PacketField → Type 0) → P 1 (Some Proto) → P 2 (Some Dst) → P 3 (Some Dport) → P 4 (Some Src) → P 5 (Some Sport)
    → P 6 (Some Flags) → P 7 (Some Icmp) → ((f : ℕ) → P f None) → (f : ℕ) → P f (field_of f)
field_cases P p1 p2 p3 p4 p5 p6 p7 other f =
    at_number P 1 f (Some Proto) _ p1 (at_number P 2 f (Some Dst) _ p2 (at_number P 3 f (Some Dport) _ p3 (at_number P 4 f (Some Src) _ p4
    (at_number P 5 f (Some Sport) _ p5 (at_number P 6 f (Some Flags) _ p6 (at_number P 7 f (Some Icmp) None p7 (other f)))))))

-- ---- the point of a packet

-- the value of a field that the packet has, else 0
abbrev pub pick : Bool → ℕ → ℕ
pick true v = v
pick false v = 0

abbrev pub point_of : Packet → List ℕ
point_of p = p.entry ∷ p.proto ∷ p.dst ∷ pick (has_ports p.proto) p.dport ∷ p.src ∷ pick (has_ports p.proto) p.sport
    ∷ pick (nat_eq p.proto 6) p.flags ∷ pick (nat_eq p.proto 1) p.icmp ∷ 0 ∷ 0 ∷ 0 ∷ 0 ∷ []

picked : (b : Bool) (v w : ℕ) → b ≡ true → v ≡ w → pick b v ≡ w
picked true v w e s = s
picked false v w e s = absurd (false≢true e)

pick_low : (b : Bool) (v top : ℕ) → (b ≡ true → v ≤ top) → pick b v ≤ top
pick_low true v top h = h refl
pick_low false v top h = omega arith

pub point_seen : (p : Packet) → IsSeenAs Entered p (point_of p)
point_seen p = λ f v has-it is.
    field_cases (λ k o. has_field p.proto k ≡ true → option_map (λ field. value_of field p) o ≡ Some v → slice_index (point_of p) k ≡ v)
    (λ a e. same_Some p.proto v e) (λ a e. same_Some p.dst v e)
    (λ a e. picked (has_ports p.proto) p.dport v a (same_Some p.dport v e)) (λ a e. same_Some p.src v e)
    (λ a e. picked (has_ports p.proto) p.sport v a (same_Some p.sport v e)) (λ a e. picked (nat_eq p.proto 6) p.flags v a (same_Some p.flags v e))
    (λ a e. picked (nat_eq p.proto 1) p.icmp v a (same_Some p.icmp v e)) (λ k a e. absurd (none-some v e)) f has-it is

pub point_within : (site : Site) (p : Packet) → p.entry ≤ slice_index (tops_of site) 0 → IsTopped (tops_of site) Entered p → IsWithin (tops_of site) (point_of p)
point_within site p entry topped =
    let last : (n : ℕ) → 0 ≤ n = zero_low in (
      entry,
      (
        topped 1 p.proto refl refl,
        (
          topped 2 p.dst refl refl,
          (
            pick_low (has_ports p.proto) p.dport 65535 (λ e. topped 3 p.dport e refl),
            (
              topped 4 p.src refl refl,
              (
                pick_low (has_ports p.proto) p.sport 65535 (λ e. topped 5 p.sport e refl),
                (
                  pick_low (nat_eq p.proto 6) p.flags 63 (λ e. topped 6 p.flags e refl),
                  (
                    pick_low (nat_eq p.proto 1) p.icmp 255 (λ e. topped 7 p.icmp e refl),
                    (last (2 ^ 32 - 1), (last 65535, (last (2 ^ 32 - 1), (last 65535, tt)))),
                  ),
                ),
              ),
            ),
          ),
        ),
      ),
    )
  where
    zero_low : (n : ℕ) → 0 ≤ n
    zero_low n = omega arith

-- ---- packets that agree in later fields

-- behind a translation of destinations the fields from the source on are shown as before
pub shown_from_source : (p : Packet) (x y f v : ℕ) → 4 ≤ f → shown Entered f p ≡ Some v → shown Entered f (record p { dst = x; dport = y }) ≡ Some v
shown_from_source p x y f v le e =
    field_cases (λ k o. 4 ≤ k → option_map (λ field. value_of field p) o ≡ Some v → option_map (λ field. value_of field (record p { dst = x; dport = y })) o ≡ Some v)
    (λ a e. e) (λ a e. absurd (omega (arith, a))) (λ a e. absurd (omega (arith, a))) (λ a e. e) (λ a e. e) (λ a e. e) (λ a e. e) (λ k a e. e) f le e

-- and behind one of sources those from the source's port on
pub shown_from_port : (p : Packet) (x f v : ℕ) → 5 ≤ f → shown Entered f p ≡ Some v → shown Entered f (record p { src = x }) ≡ Some v
shown_from_port p x f v le e =
    field_cases (λ k o. 5 ≤ k → option_map (λ field. value_of field p) o ≡ Some v → option_map (λ field. value_of field (record p { src = x })) o ≡ Some v)
    (λ a e. e) (λ a e. e) (λ a e. e) (λ a e. absurd (omega (arith, a))) (λ a e. e) (λ a e. e) (λ a e. e) (λ k a e. e) f le e
