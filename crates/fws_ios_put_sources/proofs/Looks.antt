-- Points that lists can't tell apart, and fields that are left out.
use Rattle.std.proofs.Common.{◌≡◌, ℕ, Bool, true, false, ◌&&◌, ◌||◌, not, Some, List, refl, sym, ◌∙◌, ap, get_or}
use Rattle.std.proofs.lemmas.Bool.{and_parts, false≢true}
use Rattle.std.specs.Prelude.{◌↔◌}
use Rattle.fws_box.specs.Sides.{IsWithin}
use Rattle.fws_ios_put_entries.specs.Seen.{IsListed, LookSame}
use Rattle.fws_ios_put_sources.specs.Parting.{keeps_look}
use Rattle.fws_net.specs.Fates.{has_ports}
use Rattle.fws_tree.specs.Changed.{is_free, Agree}
use Rattle.fws_tree.specs.Plain.{Plain, value}
use Rattle.fws_ios_put_sources.proofs.Mixed.{field_alike, field_taken, with_fields}

pub look_back : (x y : List ℕ) → LookSame x y → LookSame y x
look_back x y look = record {
  proto = sym look.proto;
  dst = sym look.dst;
  src = sym look.src;
  dport = λ ports. sym (look.dport (ap has_ports look.proto ∙ ports));
  sport = λ ports. sym (look.sport (ap has_ports look.proto ∙ ports));
  icmp = λ one. sym (look.icmp (look.proto ∙ one));
}

with_all : (a b c d : Bool) → (not a || (b && (c && d))) ≡ true → a ≡ true → (b ≡ true) × (c ≡ true) × (d ≡ true)
with_all true b c d h e = let first = and_parts b (c && d) h in
    let others = and_parts c d first.1 in (first.0, others.0, others.1)
with_all false b c d h e = absurd (false≢true e)

-- a field that only some protocols have
detail : (fields : ℕ) (tops x y q : List ℕ) → IsWithin tops q → IsWithin tops y → Agree fields x q → (k : ℕ) → (is_free fields 1 ≡ true → is_free fields k ≡ true)
    → (is_free fields 1 ≡ false → get_or x k 0 ≡ get_or y k 0) → get_or q k 0 ≡ get_or (with_fields fields q y) k 0
detail fields tops x y q w v agree k there same = by (is_free fields 1) refl
  where
    by : (c : Bool) → is_free fields 1 ≡ c → get_or q k 0 ≡ get_or (with_fields fields q y) k 0
    by true e = field_taken fields tops q y w v k (there e)
    by false e = field_alike fields tops x y q w v agree k (same e)

-- of two points that look the same, and another one like the first: it looks as the second one with its fields of the set
pub look_mixed : (fields : ℕ) (tops x y q : List ℕ) → keeps_look fields ≡ true → IsWithin tops q → IsWithin tops y → LookSame x y → Agree fields x q
    → LookSame q (with_fields fields q y)
look_mixed fields tops x y q keeps w v look agree =
    let all : is_free fields 1 ≡ true → (is_free fields 3 ≡ true) × (is_free fields 5 ≡ true) × (is_free fields 7 ≡ true)
    = with_all (is_free fields 1) (is_free fields 3) (is_free fields 5) (is_free fields 7) keeps in
    record {
      proto = field_alike fields tops x y q w v agree 1 look.proto;
      dst = field_alike fields tops x y q w v agree 2 look.dst;
      src = field_alike fields tops x y q w v agree 4 look.src;
      dport = λ ports. detail fields tops x y q w v agree 3 (λ e. (all e).0) (λ e. look.dport (ap has_ports (agree 1 e) ∙ ports));
      sport = λ ports. detail fields tops x y q w v agree 5 (λ e. (all e).1) (λ e. look.sport (ap has_ports (agree 1 e) ∙ ports));
      icmp = λ one. detail fields tops x y q w v agree 7 (λ e. (all e).2) (λ e. look.icmp (agree 1 e ∙ one));
    }

same_bool : (a b : Bool) → (a ≡ true → b ≡ true) → (b ≡ true → a ≡ true) → a ≡ b
same_bool true true there back = refl
same_bool true false there back = sym (there refl)
same_bool false true there back = back refl
same_bool false false there back = refl

-- lists can tell a set that has with each point those that look the same
pub listed_of : (tops : List ℕ) (u : Plain Bool) (P : List ℕ → Type 0) → ((x : List ℕ) → IsWithin tops x → (b : Bool) × (value u x ≡ Some b) × ((b ≡ true) ↔ P x))
    → ((x y : List ℕ) → IsWithin tops x → IsWithin tops y → LookSame x y → P x → P y) → IsListed tops (value u)
listed_of tops u P tells moves x y w v look =
    let a = tells x w in
    let b = tells y v in
    a.1
    ∙ ap Some (same_bool a.0 b.0 (λ e. b.2.1 (moves x y w v look (a.2.0 e))) (λ e. a.2.1 (moves y x v w (look_back x y look) (b.2.0 e))))
    ∙ sym b.1
