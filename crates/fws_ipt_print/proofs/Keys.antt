-- The option of a literal, and what it leaves in a draft.
use Rattle.std.proofs.Common.{◌≡◌, ℕ, ◌-◌, Bool, true, false, ◌||◌, not, nat_eq, Option, Some, None, is_some, List, [], ◌∷◌, ◌++◌, codes, refl, ap, sym, ◌∙◌}
use Rattle.std.proofs.lemmas.Bool.{and_from, and_parts, or_from, or_parts, eqb-true, false_from_ne_true, true≢false, not-true}
use Rattle.std.proofs.lemmas.Slice.Eq.{bytes_eq-Decides}
use Rattle.std.specs.List.{list_all, list_any}
use Rattle.std.specs.Option.{option_map_or}
use Rattle.std.specs.Str.{bytes_eq}
use Rattle.fws_num.specs.Named.{named_in}
use Rattle.fws_iv.specs.declared.iv.Iv.{Iv}
use Rattle.fws_net.specs.declared.condition.Lit.{Lit}
use Rattle.fws_net.specs.declared.condition.Test.{Test}
use Rattle.fws_net.specs.declared.condition.Test.TheVariants.{Src, Dst, Sport, Dport, Proto, Icmp, Flags, AnyFlag, Recv, Xmit, Via, Outward, Est, Tag, Never}
use Rattle.fws_ipt_print.specs.Printable.{is_port_test, option_of}
use Rattle.fws_ipt_print.specs.PrintedText.{first_part, free_bits}
use Rattle.fws_ipt_print.proofs.Told.{Told}

-- Options by their tests

abbrev pub address_key : List ℕ → List ℕ → Option ℕ → List ℕ
address_key prefix range free = option_map_or (λ bits. prefix) free range

abbrev pub port_key : List ℕ → List ℕ → List Iv → List ℕ
port_key one many (iv ∷ []) = one
port_key one many set = many

abbrev pub key_of : Test → List ℕ
key_of (Proto set) = codes "-p"
key_of (Src set) = address_key (codes "-s") (codes "--src-range") (free_bits (first_part set))
key_of (Dst set) = address_key (codes "-d") (codes "--dst-range") (free_bits (first_part set))
key_of (Sport set) = port_key (codes "--sport") (codes "--sports") set
key_of (Dport set) = port_key (codes "--dport") (codes "--dports") set
key_of (Flags mask want) = codes "--tcp-flags"
key_of (Icmp set) = codes "--icmp-type"
key_of (Recv set) = codes "-i"
key_of Est = codes "--ctstate"
key_of (Tag n) = codes "--mark"
key_of _ = codes "--mark"

-- the number of an option
abbrev numbers : List (List ℕ × ℕ)
numbers =
    (codes "-p", 0) ∷ (codes "-s", 1) ∷ (codes "--src-range", 1) ∷ (codes "-d", 2) ∷ (codes "--dst-range", 2) ∷ (codes "--sport", 3) ∷
    (codes "--sports", 3) ∷ (codes "--dport", 4) ∷ (codes "--dports", 4) ∷ (codes "--tcp-flags", 5) ∷ (codes "--icmp-type", 6) ∷
    (codes "-i", 7) ∷ (codes "--ctstate", 8) ∷ (codes "--mark", 9) ∷ []

is_numbered : List ℕ → ℕ → Bool
is_numbered key n = option_map_or (nat_eq n) (named_in numbers key) false

port_numbered : (one many : List ℕ) (n : ℕ) (set : List Iv) → is_numbered one n ≡ true → is_numbered many n ≡ true → is_numbered (port_key one many set) n ≡ true
port_numbered one many n [] h k = k
port_numbered one many n (iv ∷ []) h k = h
port_numbered one many n (iv ∷ next ∷ set) h k = k

address_numbered : (prefix range : List ℕ) (n : ℕ) (free : Option ℕ) → is_numbered prefix n ≡ true → is_numbered range n ≡ true → is_numbered (address_key prefix range free) n ≡ true
address_numbered prefix range n None h k = k
address_numbered prefix range n (Some bits) h k = h

-- a test with an option
abbrev pub is_optional : Test → Bool
is_optional test = not (nat_eq (option_of test) 10)

key_numbered : (test : Test) → is_optional test ≡ true → is_numbered (key_of test) (option_of test) ≡ true
unfolding is_numbered
key_numbered (Proto set) h = refl
key_numbered (Src set) h = address_numbered (codes "-s") (codes "--src-range") 1 (free_bits (first_part set)) refl refl
key_numbered (Dst set) h = address_numbered (codes "-d") (codes "--dst-range") 2 (free_bits (first_part set)) refl refl
key_numbered (Sport set) h = port_numbered (codes "--sport") (codes "--sports") 3 set refl refl
key_numbered (Dport set) h = port_numbered (codes "--dport") (codes "--dports") 4 set refl refl
key_numbered (Flags mask want) h = refl
key_numbered (Icmp set) h = refl
key_numbered (Recv set) h = refl
key_numbered Est h = refl
key_numbered (Tag n) h = refl
key_numbered (AnyFlag mask) h = absurd cc
key_numbered (Xmit set) h = absurd cc
key_numbered (Via set) h = absurd cc
key_numbered Outward h = absurd cc
key_numbered Never h = absurd cc

number_same : (o : Option ℕ) (m n : ℕ) → option_map_or (nat_eq m) o false ≡ true → option_map_or (nat_eq n) o false ≡ true → nat_eq m n ≡ true
number_same None m n h k = absurd cc
number_same (Some x) m n h k = ap (nat_eq m) (eqb-true n x k) ∙ h

-- literals of different options have different keys
keys_differ : (a b : Test) → is_optional a ≡ true → is_optional b ≡ true → nat_eq (option_of a) (option_of b) ≡ false → bytes_eq (key_of b) (key_of a) ≡ false
unfolding is_numbered
keys_differ a b ha hb other =
    false_from_ne_true (bytes_eq (key_of b) (key_of a)) (λ e.
    let same : key_of b ≡ key_of a = (bytes_eq-Decides (key_of b) (key_of a)).0 e in
    true≢false (sym (number_same (named_in numbers (key_of b)) (option_of a) (option_of b)
    (ap (λ key. is_numbered key (option_of a)) same ∙ key_numbered a ha) (key_numbered b hb)) ∙ other))

-- Options that weren't given

abbrev pub is_fresh : List (List ℕ) → Lit → Bool
is_fresh given lit = not (list_any (bytes_eq (key_of lit.test)) given)

any_append : (test : List ℕ → Bool) (given : List (List ℕ)) (key : List ℕ) → list_any test given ≡ false → test key ≡ false → list_any test (given ++ key ∷ []) ≡ false
any_append test [] key h k = or_from (test key) false k refl
any_append test (text ∷ given) key h k =
    let parts = or_parts (test text) (list_any test given) h in
    or_from (test text) (list_any test (given ++ key ∷ [])) parts.0 (any_append test given key parts.1 k)

not_back : (b : Bool) → b ≡ false → not b ≡ true
not_back false h = refl
not_back true h = absurd cc

-- the options of further literals weren't given with this one
pub fresh_more : (given : List (List ℕ)) (lit : Lit) (lits : List Lit) → is_optional lit.test ≡ true → list_all (λ lit. is_optional lit.test) lits ≡ true
    → list_all (λ other. not (nat_eq (option_of lit.test) (option_of other.test))) lits ≡ true → list_all (is_fresh given) lits ≡ true
    → list_all (is_fresh (given ++ key_of lit.test ∷ [])) lits ≡ true
fresh_more given lit [] h all other fresh = refl
fresh_more given lit (next ∷ lits) h all other fresh =
    let a = and_parts (is_optional next.test) (list_all (λ lit. is_optional lit.test) lits) all in
    let b = and_parts (not (nat_eq (option_of lit.test) (option_of next.test))) (list_all (λ other. not (nat_eq (option_of lit.test) (option_of other.test))) lits) other in
    let c = and_parts (is_fresh given next) (list_all (is_fresh given) lits) fresh in
    and_from (is_fresh (given ++ key_of lit.test ∷ []) next) (list_all (is_fresh (given ++ key_of lit.test ∷ [])) lits)
    (not_back (list_any (bytes_eq (key_of next.test)) (given ++ key_of lit.test ∷ []))
    (any_append (bytes_eq (key_of next.test)) given (key_of lit.test) (not-true (list_any (bytes_eq (key_of next.test)) given) c.0)
    (keys_differ lit.test next.test h a.0 (not-true (nat_eq (option_of lit.test) (option_of next.test)) b.0))))
    (fresh_more given lit lits h a.1 b.1 c.1)

pub fresh_first : (lits : List Lit) → list_all (is_fresh []) lits ≡ true
fresh_first [] = refl
fresh_first (lit ∷ lits) = fresh_first lits

-- What a literal leaves

abbrev pub is_flag_test : Test → Bool
is_flag_test (Flags mask want) = true
is_flag_test _ = false

abbrev pub is_icmp_test : Test → Bool
is_icmp_test (Icmp set) = true
is_icmp_test _ = false

abbrev pub source_by : Test → Option ℕ → Option ℕ
source_by (Src set) o = option_map_or (λ bits. Some (32 - bits)) (free_bits (first_part set)) o
source_by _ o = o

abbrev pub destination_by : Test → Option ℕ → Option ℕ
destination_by (Dst set) o = option_map_or (λ bits. Some (32 - bits)) (free_bits (first_part set)) o
destination_by _ o = o

abbrev pub protocol_by : Test → Option ℕ → Option ℕ
protocol_by (Proto set) o = Some (first_part set).lo
protocol_by _ o = o

abbrev pub told : Lit → Told → Told
told lit t = record {
  given = t.given ++ key_of lit.test ∷ [];
  lits = t.lits ++ lit ∷ [];
  source = source_by lit.test t.source;
  destination = destination_by lit.test t.destination;
  protocol = protocol_by lit.test t.protocol;
  has_port = t.has_port || is_port_test lit.test;
  has_flags = t.has_flags || is_flag_test lit.test;
  has_icmp = t.has_icmp || is_icmp_test lit.test;
}

abbrev pub all_told : List Lit → Told → Told
all_told [] t = t
all_told (lit ∷ lits) t = all_told lits (told lit t)

-- Options that no literal has

abbrev pub is_known : List ℕ → Bool
is_known key = is_some (named_in numbers key)

known_by : (n : ℕ) (o : Option ℕ) → option_map_or (nat_eq n) o false ≡ true → is_some o ≡ true
known_by n None h = absurd cc
known_by n (Some m) h = refl

pub key_known : (test : Test) → is_optional test ≡ true → is_known (key_of test) ≡ true
unfolding is_numbered
key_known test h = known_by (option_of test) (named_in numbers (key_of test)) (key_numbered test h)

pub unknown_fresh : (key : List ℕ) (given : List (List ℕ)) → is_known key ≡ false → list_all is_known given ≡ true → list_any (bytes_eq key) given ≡ false
unknown_fresh key [] h k = refl
unknown_fresh key (text ∷ given) h k =
    let parts = and_parts (is_known text) (list_all is_known given) k in
    or_from (bytes_eq key text) (list_any (bytes_eq key) given)
    (false_from_ne_true (bytes_eq key text) (λ e. true≢false (sym parts.0 ∙ ap is_known (sym ((bytes_eq-Decides key text).0 e)) ∙ h)))
    (unknown_fresh key given h parts.1)
