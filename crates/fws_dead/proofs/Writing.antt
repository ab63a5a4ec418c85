-- Fates of packets over which ends are written.
use Rattle.std.proofs.Common.{◌≡◌, ◌≢◌, ℕ, ◌<◌, ◌≤◌, ◌-◌, ◌^◌, true, false, Option, Some, None, MatchOption, is_some, suc, List, [], ◌∷◌, length, inl, inr, refl, sym, ◌∙◌, ap, subst, arith}
use Rattle.std.proofs.lemmas.Bool.{cases_Bool, cond-true, cond-false, or_cases, both_ways, eqb-true}
use Rattle.std.specs.Prelude.{slice_index, slice_index_or, slice_set, cond, nat_eq}
use Rattle.fws_box.specs.Sides.{IsWithin, sides_have}
use Rattle.fws_iv.specs.declared.iv.Iv.{Iv}
use Rattle.fws_iv.specs.Ivs.{has}
use Rattle.fws_net.specs.declared.outcome.End.{End}
use Rattle.fws_net.specs.declared.outcome.Fate.TheVariants.{Sent}
use Rattle.fws_net.specs.declared.outcome.Outcome.{Outcome}
use Rattle.fws_net.specs.declared.outcome.Outcome.TheVariants.{Drop, Accept}
use Rattle.fws_net.specs.declared.outcome.Rewrite.{Rewrite}
use Rattle.fws_net.specs.declared.packet.State.{State}
use Rattle.fws_net.specs.declared.packet.State.TheVariants.{Fresh, Est}
use Rattle.fws_net.specs.Fates.{has_ports, written_addr, written_port, sent_port}
use Rattle.fws_dead.specs.declared.laid.Laid.{Laid}
use Rattle.fws_dead.specs.Laid.{laid_over}
use Rattle.fws_dead.specs.Moved.{IsMoved}
use Rattle.fws_dead.specs.Rows.{IsRow, IsAlikeAt, AreAlikeIn, IsApartIn, ArePortsAlike}
use Rattle.fws_dead.proofs.Sides.{set_there, set_other, set_within, within_length, within_at, side_has, had_with}

-- ---- fates that are equal, and that aren't

parts_same : (a b c d e f g h : ℕ) → a ≡ e → b ≡ f → c ≡ g → d ≡ h → Sent a b c d ≡ Sent e f g h
parts_same a b c d e f g h p q r s = cc

dst_same : (a b c d e f g h : ℕ) → Sent a b c d ≡ Sent e f g h → a ≡ e
dst_same a b c d e f g h p = cc

dport_same : (a b c d e f g h : ℕ) → Sent a b c d ≡ Sent e f g h → b ≡ f
dport_same a b c d e f g h p = cc

src_same : (a b c d e f g h : ℕ) → Sent a b c d ≡ Sent e f g h → c ≡ g
src_same a b c d e f g h p = cc

sport_same : (a b c d e f g h : ℕ) → Sent a b c d ≡ Sent e f g h → d ≡ h
sport_same a b c d e f g h p = cc

-- ---- tops

tops_two : (tops : List ℕ) (sides : List (List Iv)) → IsRow tops sides → slice_index tops 2 ≡ 2 ^ 32 - 1
tops_two tops sides row = ap (λ l. slice_index l 2) row.tops_are.1

tops_four : (tops : List ℕ) (sides : List (List Iv)) → IsRow tops sides → slice_index tops 4 ≡ 2 ^ 32 - 1
tops_four tops sides row = ap (λ l. slice_index l 4) row.tops_are.1

tops_three : (tops : List ℕ) (sides : List (List Iv)) → IsRow tops sides → slice_index tops 3 ≡ 65535
tops_three tops sides row = ap (λ l. slice_index l 3) row.tops_are.1

tops_five : (tops : List ℕ) (sides : List (List Iv)) → IsRow tops sides → slice_index tops 5 ≡ 65535
tops_five tops sides row = ap (λ l. slice_index l 5) row.tops_are.1

-- ---- one side

-- what two writings say of numbers below a bound
abbrev pub AreLaid : (ℕ → ℕ) → Laid → ℕ → Type 0
AreLaid f a n = (x : ℕ) → x < n → f x ≡ laid_over a x

-- two writings write the same over the values of a side
abbrev pub AreLaidAlike : List (List Iv) → ℕ → Laid → Laid → Type 0
AreLaidAlike sides k a b = (x : ℕ) → has (slice_index_or sides k []) x ≡ true → laid_over a x ≡ laid_over b x

-- where none is found, both write the same over the values of points
pub none_apart : (tops : List ℕ) (sides : List (List Iv)) (k n : ℕ) (f g : ℕ → ℕ) (a b : Laid) → IsRow tops sides → k < 12 → slice_index tops k < n → AreLaid f a n → AreLaid g b n
    → ((x : ℕ) → has (slice_index_or sides k []) x ≡ true → laid_over a x ≡ laid_over b x)
    → (p : List ℕ) → IsWithin tops p → sides_have sides p ≡ true → f (slice_index p k) ≡ g (slice_index p k)
none_apart tops sides k n f g a b row lt top fa gb none p w h =
    let x : ℕ = slice_index p k in
    let twelve : length sides ≡ 12 = row.twelve in
    let le : x ≤ slice_index tops k = within_at tops p k w in
    let below : x < n = omega arith in
    fa x below ∙ none x (side_has sides p k h (omega (arith, twelve))) ∙ sym (gb x below)

-- where one is found, they differ over it
pub one_apart : (tops : List ℕ) (sides : List (List Iv)) (k n x : ℕ) (f g : ℕ → ℕ) (a b : Laid) → IsRow tops sides → slice_index tops k < n → AreLaid f a n → AreLaid g b n
    → has (slice_index_or sides k []) x ≡ true → laid_over a x ≢ laid_over b x → f x ≢ g x
one_apart tops sides k n x f g a b row top fa gb had ne same =
    let le : x ≤ slice_index tops k = row.within k x had in
    let below : x < n = omega arith in
    ne (sym (fa x below) ∙ same ∙ gb x below)

-- ---- a point with another value

-- the row has it
pub with_value : (tops : List ℕ) (sides : List (List Iv)) (p : List ℕ) (k x : ℕ) → IsRow tops sides → IsWithin tops p → sides_have sides p ≡ true → has (slice_index_or sides k []) x ≡ true
    → IsWithin tops (slice_set p k x) × (sides_have sides (slice_set p k x) ≡ true)
with_value tops sides p k x row w h had = (set_within tops p k x w (row.within k x had), had_with sides p k x h had)

twelve_values : (tops : List ℕ) (sides : List (List Iv)) (p : List ℕ) → IsRow tops sides → IsWithin tops p → length p ≡ 12
twelve_values tops sides p row w = sym (within_length tops p w) ∙ ap length row.tops_are.1

pub value_there : (tops : List ℕ) (sides : List (List Iv)) (p : List ℕ) (k x : ℕ) → IsRow tops sides → IsWithin tops p → k < 12 → slice_index (slice_set p k x) k ≡ x
value_there tops sides p k x row w lt = let n = twelve_values tops sides p row w in set_there p k x 0 (omega (arith, n))

pub value_kept : (p : List ℕ) (k x j : ℕ) → (j ≡ k → ⊥) → slice_index (slice_set p k x) j ≡ slice_index p j
value_kept p k x j ne = set_other p k x 0 j ne

-- ---- rows of two rewritings

-- at another destination
pub dst_apart : (tops : List ℕ) (sides : List (List Iv)) (point : List ℕ) (x : ℕ) (v w : Rewrite) (a b : Laid) → IsRow tops sides → IsWithin tops point → sides_have sides point ≡ true
    → AreLaid (written_addr v.dst) a (2 ^ 32) → AreLaid (written_addr w.dst) b (2 ^ 32)
    → (has (slice_index_or sides 2 []) x ≡ true) × (laid_over a x ≢ laid_over b x) → IsApartIn Fresh tops sides (Accept v) (Accept w) (slice_set point 2 x)
dst_apart tops sides point x v w a b row within h va wb found =
    let q : List ℕ = slice_set point 2 x in
    let at = with_value tops sides point 2 x row within h found.0 in
    let top : slice_index tops 2 ≡ 2 ^ 32 - 1 = tops_two tops sides row in
    let ne = one_apart tops sides 2 (2 ^ 32) x (written_addr v.dst) (written_addr w.dst) a b row (omega (arith, top)) va wb found.0 found.1 in
    let there : slice_index q 2 ≡ x = value_there tops sides point 2 x row within (omega arith) in
    record {
      inside = at.0;
      had = at.1;
      differ = λ same. ne (ap (written_addr v.dst) (sym there) ∙ dst_same _ _ _ _ _ _ _ _ same ∙ ap (written_addr w.dst) there);
    }

-- at another source
pub src_apart : (tops : List ℕ) (sides : List (List Iv)) (point : List ℕ) (x : ℕ) (v w : Rewrite) (a b : Laid) → IsRow tops sides → IsWithin tops point → sides_have sides point ≡ true
    → AreLaid (written_addr v.src) a (2 ^ 32) → AreLaid (written_addr w.src) b (2 ^ 32)
    → (has (slice_index_or sides 4 []) x ≡ true) × (laid_over a x ≢ laid_over b x) → IsApartIn Fresh tops sides (Accept v) (Accept w) (slice_set point 4 x)
src_apart tops sides point x v w a b row within h va wb found =
    let q : List ℕ = slice_set point 4 x in
    let at = with_value tops sides point 4 x row within h found.0 in
    let top : slice_index tops 4 ≡ 2 ^ 32 - 1 = tops_four tops sides row in
    let ne = one_apart tops sides 4 (2 ^ 32) x (written_addr v.src) (written_addr w.src) a b row (omega (arith, top)) va wb found.0 found.1 in
    let there : slice_index q 4 ≡ x = value_there tops sides point 4 x row within (omega arith) in
    record {
      inside = at.0;
      had = at.1;
      differ = λ same. ne (ap (written_addr v.src) (sym there) ∙ src_same _ _ _ _ _ _ _ _ same ∙ ap (written_addr w.src) there);
    }

-- ports that are sent of a protocol that has them
ported : (proto port : ℕ) (end : Option End) → has_ports proto ≡ true → sent_port proto end port ≡ written_port end port
ported proto port end h = cond-true (has_ports proto) (written_port end port) port h

unported : (proto port : ℕ) (end : Option End) → has_ports proto ≡ false → sent_port proto end port ≡ port
unported proto port end h = cond-false (has_ports proto) (written_port end port) port h

-- at another port, of a protocol that has ports
port_ne : (proto other port x : ℕ) (e f : Option End) → has_ports proto ≡ true → other ≡ proto → port ≡ x → written_port e x ≢ written_port f x → sent_port other e port ≢ sent_port other f port
port_ne proto other port x e f h is at ne same =
    let y : has_ports other ≡ true = ap has_ports is ∙ h in
    ne (ap (written_port e) (sym at) ∙ sym (ported other port e y) ∙ same ∙ ported other port f y ∙ ap (written_port f) at)

pub dport_apart : (tops : List ℕ) (sides : List (List Iv)) (point : List ℕ) (x : ℕ) (v w : Rewrite) (a b : Laid) → IsRow tops sides → IsWithin tops point → sides_have sides point ≡ true
    → has_ports (slice_index point 1) ≡ true → AreLaid (written_port v.dst) a (2 ^ 16) → AreLaid (written_port w.dst) b (2 ^ 16)
    → has (slice_index_or sides 3 []) x ≡ true → laid_over a x ≢ laid_over b x → IsApartIn Fresh tops sides (Accept v) (Accept w) (slice_set point 3 x)
dport_apart tops sides point x v w a b row within h ports va wb had ne =
    let q : List ℕ = slice_set point 3 x in
    let at = with_value tops sides point 3 x row within h had in
    let top : slice_index tops 3 ≡ 65535 = tops_three tops sides row in
    let apart = one_apart tops sides 3 (2 ^ 16) x (written_port v.dst) (written_port w.dst) a b row (omega (arith, top)) va wb had ne in
    let there : slice_index q 3 ≡ x = value_there tops sides point 3 x row within (omega arith) in
    let other : slice_index q 1 ≡ slice_index point 1 = value_kept point 3 x 1 (λ e. omega (arith, e)) in
    record {
      inside = at.0;
      had = at.1;
      differ = λ same. port_ne (slice_index point 1) (slice_index q 1) (slice_index q 3) x v.dst w.dst ports other there apart (dport_same _ _ _ _ _ _ _ _ same);
    }

pub sport_apart : (tops : List ℕ) (sides : List (List Iv)) (point : List ℕ) (x : ℕ) (v w : Rewrite) (a b : Laid) → IsRow tops sides → IsWithin tops point → sides_have sides point ≡ true
    → has_ports (slice_index point 1) ≡ true → AreLaid (written_port v.src) a (2 ^ 16) → AreLaid (written_port w.src) b (2 ^ 16)
    → has (slice_index_or sides 5 []) x ≡ true → laid_over a x ≢ laid_over b x → IsApartIn Fresh tops sides (Accept v) (Accept w) (slice_set point 5 x)
sport_apart tops sides point x v w a b row within h ports va wb had ne =
    let q : List ℕ = slice_set point 5 x in
    let at = with_value tops sides point 5 x row within h had in
    let top : slice_index tops 5 ≡ 65535 = tops_five tops sides row in
    let apart = one_apart tops sides 5 (2 ^ 16) x (written_port v.src) (written_port w.src) a b row (omega (arith, top)) va wb had ne in
    let there : slice_index q 5 ≡ x = value_there tops sides point 5 x row within (omega arith) in
    let other : slice_index q 1 ≡ slice_index point 1 = value_kept point 5 x 1 (λ e. omega (arith, e)) in
    record {
      inside = at.0;
      had = at.1;
      differ = λ same. port_ne (slice_index point 1) (slice_index q 1) (slice_index q 5) x v.src w.src ports other there apart (sport_same _ _ _ _ _ _ _ _ same);
    }

-- where no protocol of the row has ports
pub unported_alike : (tops : List ℕ) (sides : List (List Iv)) (v w : Rewrite) → IsRow tops sides → ((x : ℕ) → has (slice_index_or sides 1 []) x ≡ true → has_ports x ≡ false) → ArePortsAlike tops sides v w
unported_alike tops sides v w row none p within h =
    let twelve : length sides ≡ 12 = row.twelve in
    let proto : ℕ = slice_index p 1 in
    let off : has_ports proto ≡ false = none proto (side_has sides p 1 h (omega (arith, twelve))) in
    (both proto (slice_index p 3) v.dst w.dst off, both proto (slice_index p 5) v.src w.src off)
  where
    both : (proto port : ℕ) (e f : Option End) → has_ports proto ≡ false → sent_port proto e port ≡ sent_port proto f port
    both proto port e f off = unported proto port e off ∙ sym (unported proto port f off)

-- where the ports that are written are equal
pub ports_alike : (tops : List ℕ) (sides : List (List Iv)) (v w : Rewrite) (a b c d : Laid) → IsRow tops sides
    → AreLaid (written_port v.dst) a (2 ^ 16) → AreLaid (written_port w.dst) b (2 ^ 16) → AreLaid (written_port v.src) c (2 ^ 16) → AreLaid (written_port w.src) d (2 ^ 16)
    → ((x : ℕ) → has (slice_index_or sides 3 []) x ≡ true → laid_over a x ≡ laid_over b x) → ((x : ℕ) → has (slice_index_or sides 5 []) x ≡ true → laid_over c x ≡ laid_over d x)
    → ArePortsAlike tops sides v w
ports_alike tops sides v w a b c d row va wb vc wd none other p within h =
    let three : slice_index tops 3 ≡ 65535 = tops_three tops sides row in
    let five : slice_index tops 5 ≡ 65535 = tops_five tops sides row in
    let e = none_apart tops sides 3 (2 ^ 16) (written_port v.dst) (written_port w.dst) a b row (omega arith) (omega (arith, three)) va wb none p within h in
    let f = none_apart tops sides 5 (2 ^ 16) (written_port v.src) (written_port w.src) c d row (omega arith) (omega (arith, five)) vc wd other p within h in
    (either (slice_index p 1) (slice_index p 3) v.dst w.dst e, either (slice_index p 1) (slice_index p 5) v.src w.src f)
  where
    either : (proto port : ℕ) (e f : Option End) → written_port e port ≡ written_port f port → sent_port proto e port ≡ sent_port proto f port
    either proto port e f same = ap (λ n. cond (has_ports proto) n port) same

-- where all that is written is equal
pub ends_alike : (tops : List ℕ) (sides : List (List Iv)) (v w : Rewrite) (a b c d : Laid) → IsRow tops sides
    → AreLaid (written_addr v.dst) a (2 ^ 32) → AreLaid (written_addr w.dst) b (2 ^ 32) → AreLaid (written_addr v.src) c (2 ^ 32) → AreLaid (written_addr w.src) d (2 ^ 32)
    → ((x : ℕ) → has (slice_index_or sides 2 []) x ≡ true → laid_over a x ≡ laid_over b x) → ((x : ℕ) → has (slice_index_or sides 4 []) x ≡ true → laid_over c x ≡ laid_over d x)
    → ArePortsAlike tops sides v w → AreAlikeIn Fresh tops sides (Accept v) (Accept w)
ends_alike tops sides v w a b c d row va wb vc wd none other ports p within h =
    let two : slice_index tops 2 ≡ 2 ^ 32 - 1 = tops_two tops sides row in
    let four : slice_index tops 4 ≡ 2 ^ 32 - 1 = tops_four tops sides row in
    let e = none_apart tops sides 2 (2 ^ 32) (written_addr v.dst) (written_addr w.dst) a b row (omega arith) (omega (arith, two)) va wb none p within h in
    let f = none_apart tops sides 4 (2 ^ 32) (written_addr v.src) (written_addr w.src) c d row (omega arith) (omega (arith, four)) vc wd other p within h in
    let g = ports p within h in
    parts_same _ _ _ _ _ _ _ _ e g.0 f g.1

-- the result for ports, as one for the row
pub ends_by_ports : (tops : List ℕ) (sides : List (List Iv)) (v w : Rewrite) (a b c d : Laid) (found : Option (List ℕ)) → IsRow tops sides
    → AreLaid (written_addr v.dst) a (2 ^ 32) → AreLaid (written_addr w.dst) b (2 ^ 32) → AreLaid (written_addr v.src) c (2 ^ 32) → AreLaid (written_addr w.src) d (2 ^ 32)
    → ((x : ℕ) → has (slice_index_or sides 2 []) x ≡ true → laid_over a x ≡ laid_over b x) → ((x : ℕ) → has (slice_index_or sides 4 []) x ≡ true → laid_over c x ≡ laid_over d x)
    → MatchOption found (ArePortsAlike tops sides v w) (IsApartIn Fresh tops sides (Accept v) (Accept w))
    → MatchOption found (AreAlikeIn Fresh tops sides (Accept v) (Accept w)) (IsApartIn Fresh tops sides (Accept v) (Accept w))
ends_by_ports tops sides v w a b c d None row va wb vc wd none other ports = ends_alike tops sides v w a b c d row va wb vc wd none other ports
ends_by_ports tops sides v w a b c d (Some q) row va wb vc wd none other apart = apart

-- a protocol of a set that has ports
pub no_protocol : (set : List Iv) → has set 6 ≡ false → has set 17 ≡ false → (x : ℕ) → has set x ≡ true → has_ports x ≡ false
no_protocol set no-six no-seventeen x h = elim (cases_Bool (has_ports x)) [
  | inl y ↦ elim (or_cases (nat_eq x 6) (nat_eq x 17) y) [
    | inl e ↦ absurd (both_ways (has set 6) no-six (ap (has set) (sym (eqb-true x 6 e)) ∙ h))
    | inr e ↦ absurd (both_ways (has set 17) no-seventeen (ap (has set) (sym (eqb-true x 17 e)) ∙ h))
  ]
  | inr n ↦ n
]

-- ---- what is found

-- at another destination, or source
pub dst_found : (tops : List ℕ) (sides : List (List Iv)) (point : List ℕ) (v w : Rewrite) (a b : Laid) (found : Option (List ℕ)) → IsRow tops sides → IsWithin tops point → sides_have sides point ≡ true
    → AreLaid (written_addr v.dst) a (2 ^ 32) → AreLaid (written_addr w.dst) b (2 ^ 32) → is_some found ≡ true → MatchOption found (AreLaidAlike sides 2 a b) (IsMoved sides point 2 a b)
    → MatchOption found (AreAlikeIn Fresh tops sides (Accept v) (Accept w)) (IsApartIn Fresh tops sides (Accept v) (Accept w))
dst_found tops sides point v w a b None row within h va wb some m = absurd (cc)
dst_found tops sides point v w a b (Some q) row within h va wb some m =
    subst (λ l. IsApartIn Fresh tops sides (Accept v) (Accept w) l) (sym m.is) (dst_apart tops sides point m.value v w a b row within h va wb (m.had, m.differ))

pub src_found : (tops : List ℕ) (sides : List (List Iv)) (point : List ℕ) (v w : Rewrite) (a b : Laid) (found : Option (List ℕ)) → IsRow tops sides → IsWithin tops point → sides_have sides point ≡ true
    → AreLaid (written_addr v.src) a (2 ^ 32) → AreLaid (written_addr w.src) b (2 ^ 32) → is_some found ≡ true → MatchOption found (AreLaidAlike sides 4 a b) (IsMoved sides point 4 a b)
    → MatchOption found (AreAlikeIn Fresh tops sides (Accept v) (Accept w)) (IsApartIn Fresh tops sides (Accept v) (Accept w))
src_found tops sides point v w a b None row within h va wb some m = absurd (cc)
src_found tops sides point v w a b (Some q) row within h va wb some m =
    subst (λ l. IsApartIn Fresh tops sides (Accept v) (Accept w) l) (sym m.is) (src_apart tops sides point m.value v w a b row within h va wb (m.had, m.differ))

-- where nothing is found
pub none_found : (A : Type 0) (B : List ℕ → Type 0) (found : Option (List ℕ)) → is_some found ≡ false → MatchOption found A B → A
none_found A B None none h = h
none_found A B (Some q) none h = absurd (cc)

-- at another port
pub dport_found : (tops : List ℕ) (sides : List (List Iv)) (point : List ℕ) (v w : Rewrite) (a b : Laid) (found : Option (List ℕ)) → IsRow tops sides → IsWithin tops point → sides_have sides point ≡ true
    → has_ports (slice_index point 1) ≡ true → AreLaid (written_port v.dst) a (2 ^ 16) → AreLaid (written_port w.dst) b (2 ^ 16) → is_some found ≡ true
    → MatchOption found (AreLaidAlike sides 3 a b) (IsMoved sides point 3 a b) → MatchOption found (ArePortsAlike tops sides v w) (IsApartIn Fresh tops sides (Accept v) (Accept w))
dport_found tops sides point v w a b None row within h ports va wb some m = absurd (cc)
dport_found tops sides point v w a b (Some q) row within h ports va wb some m =
    subst (λ l. IsApartIn Fresh tops sides (Accept v) (Accept w) l) (sym m.is) (dport_apart tops sides point m.value v w a b row within h ports va wb m.had m.differ)

pub sport_found : (tops : List ℕ) (sides : List (List Iv)) (point : List ℕ) (v w : Rewrite) (a b c d : Laid) (found : Option (List ℕ)) → IsRow tops sides → IsWithin tops point → sides_have sides point ≡ true
    → has_ports (slice_index point 1) ≡ true → AreLaid (written_port v.dst) a (2 ^ 16) → AreLaid (written_port w.dst) b (2 ^ 16) → AreLaid (written_port v.src) c (2 ^ 16) → AreLaid (written_port w.src) d (2 ^ 16)
    → AreLaidAlike sides 3 a b → MatchOption found (AreLaidAlike sides 5 c d) (IsMoved sides point 5 c d) → MatchOption found (ArePortsAlike tops sides v w) (IsApartIn Fresh tops sides (Accept v) (Accept w))
sport_found tops sides point v w a b c d None row within h ports va wb vc wd alike other = ports_alike tops sides v w a b c d row va wb vc wd alike other
sport_found tops sides point v w a b c d (Some q) row within h ports va wb vc wd alike m =
    subst (λ l. IsApartIn Fresh tops sides (Accept v) (Accept w) l) (sym m.is) (sport_apart tops sides point m.value v w c d row within h ports vc wd m.had m.differ)

-- a point with a protocol of the row
pub ported_point : (tops : List ℕ) (sides : List (List Iv)) (point ported : List ℕ) (proto : ℕ) → IsRow tops sides → IsWithin tops point → sides_have sides point ≡ true
    → has (slice_index_or sides 1 []) proto ≡ true → has_ports proto ≡ true → ported ≡ slice_set point 1 proto
    → IsWithin tops ported × (sides_have sides ported ≡ true) × (has_ports (slice_index ported 1) ≡ true)
ported_point tops sides point ported proto row within h had ports is =
    let at = with_value tops sides point 1 proto row within h had in
    let there : slice_index (slice_set point 1 proto) 1 ≡ proto = value_there tops sides point 1 proto row within (omega arith) in (
      subst (λ l. IsWithin tops l) (sym is) at.0,
      subst (λ l. sides_have sides l ≡ true) (sym is) at.1,
      subst (λ l. has_ports (slice_index l 1) ≡ true) (sym is) (ap has_ports there ∙ ports),
    )

-- a value that was found in a side
pub moved_by : (sides : List (List Iv)) (side : List Iv) (point q : List ℕ) (field x : ℕ) (a b : Laid) → side ≡ slice_index_or sides field [] → (has side x ≡ true) × (laid_over a x ≢ laid_over b x)
    → q ≡ slice_set point field x → IsMoved sides point field a b q
moved_by sides side point q field x a b is found made = record { value = x; is = made; had = subst (λ s. has s x ≡ true) is found.0; differ = found.1 }

-- ---- outcomes

drop_accept : (state : State) (w : Rewrite) (p : List ℕ) → IsAlikeAt state Drop (Accept w) p → ⊥
drop_accept Fresh w p same = absurd (cc)
drop_accept Est w p same = absurd (cc)

accept_drop : (state : State) (w : Rewrite) (p : List ℕ) → IsAlikeAt state (Accept w) Drop p → ⊥
accept_drop Fresh w p same = absurd (cc)
accept_drop Est w p same = absurd (cc)

pub both_drop : (state : State) (tops : List ℕ) (sides : List (List Iv)) → AreAlikeIn state tops sides Drop Drop
both_drop state tops sides p within h = refl

pub first_drops : (state : State) (tops : List ℕ) (sides : List (List Iv)) (w : Rewrite) (point : List ℕ) → IsWithin tops point → sides_have sides point ≡ true → IsApartIn state tops sides Drop (Accept w) point
first_drops state tops sides w point within h = record { inside = within; had = h; differ = drop_accept state w point }

-- where the second is known by an equation
pub other_accepts : (state : State) (tops : List ℕ) (sides : List (List Iv)) (o : Outcome) (w : Rewrite) (point : List ℕ) → o ≡ Accept w → IsWithin tops point → sides_have sides point ≡ true → IsApartIn state tops sides Drop o point
other_accepts state tops sides o w point is within h = subst (λ (x : Outcome). IsApartIn state tops sides Drop x point) (sym is) (first_drops state tops sides w point within h)

pub second_drops : (state : State) (tops : List ℕ) (sides : List (List Iv)) (w : Rewrite) (point : List ℕ) → IsWithin tops point → sides_have sides point ≡ true → IsApartIn state tops sides (Accept w) Drop point
second_drops state tops sides w point within h = record { inside = within; had = h; differ = accept_drop state w point }

pub both_established : (tops : List ℕ) (sides : List (List Iv)) (v w : Rewrite) → AreAlikeIn Est tops sides (Accept v) (Accept w)
both_established tops sides v w p within h = refl

-- a row without a point
pub no_point : (state : State) (tops : List ℕ) (sides : List (List Iv)) (x y : Outcome) → ((p : List ℕ) → sides_have sides p ≡ true → ⊥) → AreAlikeIn state tops sides x y
no_point state tops sides x y none p within h = absurd (none p h)

-- the least point lies within the tops
within_from : (tops q : List ℕ) → length tops ≡ length q → ((k : ℕ) → k < length q → slice_index q k ≤ slice_index tops k) → IsWithin tops q
within_from [] [] n each = tt
within_from [] (x ∷ q) n each = absurd (omega arith)
within_from (top ∷ tops) [] n each = absurd (omega arith)
within_from (top ∷ tops) (x ∷ q) n each = (each 0 (omega arith), within_from tops q (omega arith) (λ k lt. each (suc k) (omega arith)))

pub row_within : (tops : List ℕ) (sides : List (List Iv)) (q : List ℕ) → IsRow tops sides → length q ≡ 12 → sides_have sides q ≡ true → IsWithin tops q
row_within tops sides q row n h =
    let m : length tops ≡ 12 = ap length row.tops_are.1 in
    let twelve : length sides ≡ 12 = row.twelve in
    within_from tops q (omega arith) (λ k lt. row.within k (slice_index q k) (side_has sides q k h (omega (arith, n, twelve))))
