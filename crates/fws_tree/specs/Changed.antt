-- What the operations on trees make of the values that they meet.
use Rattle.std.specs.Prelude.{◌≡◌, ℕ, ◌^◌, Bool, true, false, ◌&&◌, not, nat_eq, nat_lt, if◌then◌else◌, Some, List, slice_index, bit_and}
use Rattle.std.proofs.Common.{subst}
use Rattle.fws_box.specs.Sides.{IsWithin}
use Rattle.fws_tree.specs.declared.replace.Replace.{Replace}
use Rattle.fws_tree.specs.Plain.{Plain, value}

-- of a number and a mark: a value where the mark isn't 0, or where it is; the number elsewhere
abbrev pub replaced : Bool → ℕ → ℕ → ℕ → ℕ
replaced true v x y = if nat_eq y 0 then x else v
replaced false v x y = if nat_eq y 0 then v else x

pub replaced_later : (s t : Replace) → s ≡ t → (x y z : ℕ) → z ≡ replaced s.marked s.value x y → z ≡ replaced t.marked t.value x y
replaced_later s t e x y z g = subst (λ r. z ≡ replaced r.marked r.value x y) e g

-- the bit of one of the twelve fields is set
abbrev pub is_free : ℕ → ℕ → Bool
is_free fields f = nat_lt f 12 && not (nat_eq (bit_and fields (2 ^ f)) 0)

-- the points agree in every field whose bit isn't set
abbrev pub Agree : ℕ → List ℕ → List ℕ → Type 0
Agree fields p q = (f : ℕ) → is_free fields f ≡ false → slice_index p f ≡ slice_index q f

-- some point within the tops that agrees in those fields has the value true
abbrev pub IsTrueSomewhere : List ℕ → ℕ → Plain Bool → List ℕ → Type 0
IsTrueSomewhere tops fields t p = (q : List ℕ) × IsWithin tops q × Agree fields p q × (value t q ≡ Some true)

-- a value where the sides have the point, or where they don't; another one elsewhere
abbrev pub changed_value : {V : Type 0} → Bool → Bool → V → V → V
changed_value true has new old = if has then new else old
changed_value false has new old = if has then old else new
