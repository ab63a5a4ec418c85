-- Every address is led to an interface.
use Rattle.std.proofs.Common.{ℕ, suc, ◌+◌, ◌≤◌, Bool, true, false, cond, nat_le, Option, Some, None, List, [], ◌∷◌, ◌++◌, map, length, All, arith}
use Rattle.std.proofs.lemmas.List.Elements.{All-head, All-tail}
use Rattle.std.specs.Option.{option_map_or}
use Rattle.fws_net.specs.declared.site.Address.{Address}
use Rattle.fws_net.specs.declared.site.Iface.{Iface}
use Rattle.fws_net.specs.declared.site.RouteLine.{RouteLine}
use Rattle.fws_net.specs.Routes.{net_line, nets_from, prefixes_of, leads, longer, longest, IsSoundRoute}
use Rattle.fws_net.specs.RouteLaws.{RoutesAreEntries}

-- an entry of an interface, of which the last has the entry top
abbrev IsEntry : ℕ → ℕ → Type 0
IsEntry top n = (2 ≤ n) × (n ≤ top)

-- each of the networks leads to an interface
abbrev AreEntries : ℕ → List RouteLine → Type 0
AreEntries top [] = Unit {0}
AreEntries top (line ∷ lines) = IsEntry top line.face × AreEntries top lines

abbrev IsEntryIfAny : ℕ → Option RouteLine → Type 0
IsEntryIfAny top None = Unit {0}
IsEntryIfAny top (Some line) = IsEntry top line.face

either : (b : Bool) (top : ℕ) (x y : RouteLine) → IsEntry top x.face → IsEntry top y.face → IsEntry top (cond b x y).face
either true top x y p q = p
either false top x y p q = q

longer_entry : (top : ℕ) (line : RouteLine) (o : Option RouteLine) → IsEntry top line.face → IsEntryIfAny top o → IsEntry top (longer line o).face
longer_entry top line None p q = p
longer_entry top line (Some other) p q = either (nat_le other.net.len line.net.len) top line other p q

step : (b : Bool) (top : ℕ) (line : RouteLine) (o : Option RouteLine) → IsEntry top line.face → IsEntryIfAny top o → IsEntryIfAny top (cond b (Some (longer line o)) o)
step true top line o p q = longer_entry top line o p q
step false top line o p q = q

longest_entry : (top : ℕ) (lines : List RouteLine) (a : ℕ) → AreEntries top lines → IsEntryIfAny top (longest lines a)
longest_entry top [] a h = tt
longest_entry top (line ∷ lines) a h = step (leads line a) top line (longest lines a) h.0 (longest_entry top lines a h.1)

or_other : (top other : ℕ) (o : Option RouteLine) → IsEntry top other → IsEntryIfAny top o → IsEntry top (option_map_or (λ line. line.face) o other)
or_other top other None p q = p
or_other top other (Some line) p q = q

append_entries : (top : ℕ) (xs ys : List RouteLine) → AreEntries top xs → AreEntries top ys → AreEntries top (xs ++ ys)
append_entries top [] ys p q = q
append_entries top (x ∷ xs) ys p q = (p.0, append_entries top xs ys p.1 q)

nets_of_face : (top n : ℕ) (addrs : List Address) → IsEntry top n → AreEntries top (map (net_line n) addrs)
nets_of_face top n [] h = tt
nets_of_face top n (own ∷ addrs) h = (h, nets_of_face top n addrs h)

nets_entries : (top n : ℕ) (faces : List Iface) → 2 ≤ n → n + length faces ≤ top + 1 → AreEntries top (nets_from n faces)
nets_entries top n [] low high = tt
nets_entries top n (face ∷ faces) low high =
    let le : n ≤ top = omega arith in
    let more : suc n + length faces ≤ top + 1 = omega arith in
    let up : 2 ≤ suc n = omega arith in
    append_entries top (map (net_line n) face.addrs) (nets_from (suc n) faces) (nets_of_face top n face.addrs (low, le)) (nets_entries top (suc n) faces up more)

routes_entries : (n : ℕ) (lines : List RouteLine) → All (IsSoundRoute n) lines → AreEntries (n + 1) lines
routes_entries n [] h = tt
routes_entries n (line ∷ lines) h =
    let first : IsSoundRoute n line = All-head (IsSoundRoute n) line lines h in
    ((first.2, first.3), routes_entries n lines (All-tail (IsSoundRoute n) line lines h))

pub are_entries : RoutesAreEntries
are_entries site a s =
    let top = length site.faces + 1 in
    let few : 2 + length site.faces ≤ top + 1 = omega arith in
    let low : 2 ≤ 2 = omega arith in
    or_other top site.fallback (longest (prefixes_of site) a) (s.fallback_low, s.fallback_high)
    (longest_entry top (prefixes_of site) a (append_entries top (nets_from 2 site.faces) site.routes (nets_entries top 2 site.faces low few)
    (routes_entries (length site.faces) site.routes s.routes_sound)))
