-- What holds of prefixes that are spelled.
use Rattle.std.proofs.Common.{◌≡◌, ◌≢◌, ℕ, zero, suc, ◌+◌, ◌-◌, ◌*◌, ◌/◌, ◌%◌, ◌^◌, ◌<◌, ◌≤◌, Bool, true, false, cond, ◌&&◌, ◌||◌, nat_eq, nat_le, Option, Some, None, option_and_then, option_map, IfOk, IfSome, Ok, Err, List, length, refl, ap, subst, ◌∙◌, arith, le-leb, eq-eqb}
use Rattle.std.proofs.Math.Nat.{mod-add-div, mod-one, mul-mod_right, le_refl}
use Rattle.std.proofs.lemmas.Bool.{leb-true, eqb-true, eqb-false, and_parts, and_from, or_parts, or_left, or_right}
use Rattle.std.specs.List.{find, list_all, list_any, range_with_len}
use Rattle.std.specs.Option.{option_map_or}
use Rattle.fws_num.specs.declared.prefix.Prefix.{Prefix}
use Rattle.fws_num.specs.Numbers.{is_digit, digits_value, dec_of, quad_of, split_once, mask_of, mask_len, prefix_len_of, first_bits, prefix_of}
use Rattle.fws_iv.specs.declared.iv.Iv.{Iv}
use Rattle.fws_net.specs.declared.cause.Cause.TheVariants.{Syntax, LeftOut}
use Rattle.fws_net.specs.Faces.{prefix_parts}
use Rattle.fws_ipt.specs.Spelled.{is_block, is_prefix_set, is_network}
use Rattle.fws_ipt.specs.Values.{is_masked, is_numbered, with_length, network_of}
use Rattle.fws_ipt.proofs.Outcomes.{either_holds, found_holds}

-- What is found holds

some_either : {A B : Type 0} (P : B → Type 0) (o : Option A) (f : A → Option B) (r : Option B) → ((x : A) → IfSome (f x) P) → IfSome r P → IfSome (option_map_or f o r) P
some_either P None f r h k = k
some_either P (Some x) f r h k = h x

some_first : {A : Type 0} (P : A → Type 0) (o r : Option A) → IfSome o P → IfSome r P → IfSome (option_map_or Some o r) P
some_first P None r h k = k
some_first P (Some x) r h k = h

some_next : {A B : Type 0} (P : B → Type 0) (o : Option A) (f : A → Option B) → ((x : A) → IfSome (f x) P) → IfSome (option_and_then f o) P
some_next P None f h = tt
some_next P (Some x) f h = h x

some_mapped : {A B : Type 0} (P : A → Type 0) (Q : B → Type 0) (o : Option A) (f : A → B) → IfSome o P → ((x : A) → P x → Q (f x)) → IfSome (option_map f o) Q
some_mapped P Q None f h step = tt
some_mapped P Q (Some x) f h step = step x h

some_made : {A B : Type 0} (Q : B → Type 0) (o : Option A) (f : A → B) → ((x : A) → Q (f x)) → IfSome (option_map f o) Q
some_made Q None f h = tt
some_made Q (Some x) f h = h x

some_where : (P : ℕ → Type 0) (b : Bool) (n : ℕ) → (b ≡ true → P n) → IfSome (cond b (Some n) None) P
some_where P true n h = h refl
some_where P false n h = tt

-- Lengths

dec_below : (text : List ℕ) (most : ℕ) → IfSome (dec_of text most) (λ n. n ≤ most)
dec_below text most =
    let front = list_all is_digit text && nat_le 1 (length text) && nat_le (length text) 20 in
    some_where (λ n. n ≤ most) (front && nat_le (digits_value text) most) (digits_value text)
    (λ e. leb-true (digits_value text) most (and_parts front (nat_le (digits_value text) most) e).1)

found_below : (test : ℕ → Bool) (from count most : ℕ) → from + count ≤ most + 1 → IfSome (find test (range_with_len from count)) (λ n. n ≤ most)
found_below test from zero most h = tt
found_below test from (suc count) most h =
    let here : from ≤ most = omega arith in
    let next : from + 1 + count ≤ most + 1 = omega arith in
    found_or (λ n. n ≤ most) (test from) from (find test (range_with_len (from + 1) count)) here (found_below test (from + 1) count most next)
  where
    found_or : (P : ℕ → Type 0) (b : Bool) (n : ℕ) (o : Option ℕ) → P n → IfSome o P → IfSome (cond b (Some n) o) P
    found_or P true n o h k = h
    found_or P false n o h k = k

len_below : (text : List ℕ) → IfSome (prefix_len_of text) (λ n. n ≤ 32)
unfolding prefix_len_of mask_len
len_below text =
    some_first (λ n. n ≤ 32) (dec_of text 32) (option_and_then mask_len (quad_of text)) (dec_below text 32)
    (some_next (λ n. n ≤ 32) (quad_of text) mask_len (λ mask. found_below (λ n. nat_eq (mask_of n) mask) 0 33 32 (le_refl 33)))

-- Prefixes

-- the first bits have none behind them
clear_part : (a size : ℕ) → (a - a % size) % size ≡ 0
clear_part a size =
    let e : a - a % size ≡ size * (a / size) = omega (arith, mod-add-div a size) in
    ap (λ (x : ℕ). x % size) e ∙ mul-mod_right size (a / size)

pub record IsClear (net : Prefix) : Type 0 where
  pub short : net.len ≤ 32
  pub clear : net.addr % 2 ^ (32 - net.len) ≡ 0

pub prefix_clear : (text : List ℕ) → IfSome (prefix_of text) IsClear
unfolding prefix_of first_bits
prefix_clear text =
    some_either IsClear (split_once 47 text) _ _
    (λ parts. some_next IsClear (quad_of parts.0) _
    (λ a. some_mapped (λ n. n ≤ 32) IsClear (prefix_len_of parts.1) _ (len_below parts.1) (λ n h. record { short = h; clear = clear_part a (2 ^ (32 - n)) })))
    (some_made IsClear (quad_of text) _ (λ a. record { short = le_refl 32; clear = mod-one a }))

pub prefix_block : (net : Prefix) → is_block net.len (prefix_parts net) ≡ true
prefix_block net =
    let size = 2 ^ (32 - net.len) in
    let lo = net.addr - net.addr % size in
    and_from (nat_eq (lo % size) 0) (nat_eq (lo + (size - 1)) (lo + (size - 1))) (eq-eqb (lo % size) 0 (clear_part net.addr size))
    (eq-eqb (lo + (size - 1)) (lo + (size - 1)) refl)

either_place : (here behind b : Bool) → (b ≡ true → here ≡ true) → (b ≡ false → behind ≡ true) → (here || behind) ≡ true
either_place here behind true h k = or_left here behind (h refl)
either_place here behind false h k = or_right here behind (k refl)

-- one of the numbers passes the test
any_between : (test : ℕ → Bool) (from count n : ℕ) → from ≤ n → n < from + count → test n ≡ true → list_any test (range_with_len from count) ≡ true
any_between test from zero n low high h = absurd (omega arith)
any_between test from (suc count) n low high h =
    either_place (test from) (list_any test (range_with_len (from + 1) count)) (nat_eq from n) (λ e. ap test (eqb-true from n e) ∙ h)
    (λ e.
    let apart : from ≢ n = eqb-false from n e in
    let above : from + 1 ≤ n = omega (arith, apart) in
    let below : n < from + 1 + count = omega arith in
    any_between test (from + 1) count n above below h)

-- a block is the set of a prefix of each length that isn't longer
pub block_of_prefix : (set : List Iv) (len n : ℕ) → len ≤ n → n ≤ 32 → is_block n set ≡ true → is_prefix_set len set ≡ true
block_of_prefix set len n low high h =
    let below : n < len + (33 - len) = omega arith in any_between (λ k. is_block k set) len (33 - len) n low below h

-- Networks

more_than_none : (n : ℕ) → n ≢ 0 → 1 ≤ n
more_than_none n h = omega (arith, h)

pub network_spelled : (text : List ℕ) → IfOk (network_of text) (λ net. is_network net ≡ true)
network_spelled text =
    found_holds (λ net. is_network net ≡ true) (prefix_of text) (with_length text) _
    (λ net found. either_holds (λ net. is_network net ≡ true) (nat_eq net.len 0 || is_masked text) (Err LeftOut) (Ok net) (λ e. tt)
    (λ e.
    let spelled : IsClear net = subst (λ o. IfSome o IsClear) found (prefix_clear text) in
    let some : 1 ≤ net.len = more_than_none net.len (eqb-false net.len 0 (or_parts (nat_eq net.len 0) (is_masked text) e).0) in
    and_from (nat_le 1 net.len && nat_le net.len 32) (nat_eq (net.addr % 2 ^ (32 - net.len)) 0)
    (and_from (nat_le 1 net.len) (nat_le net.len 32) (le-leb 1 net.len some) (le-leb net.len 32 spelled.short))
    (eq-eqb (net.addr % 2 ^ (32 - net.len)) 0 spelled.clear)))
    (either_holds (λ net. is_network net ≡ true) (is_numbered text) (Err LeftOut) (Err Syntax) (λ e. tt) (λ e. tt))
