-- What `==` holds equal is equal: paths. And what it is to put a value behind others unless it is there.
use Rattle.std.specs.Prelude.{◌≡◌, ◌⊎◌, Bool, true, ◌&&◌, nat_eq, Option, Some, None, List, [], ◌∷◌, ◌++◌, Contains}
use Rattle.std.specs.Option.{option_eq}
use Rattle.std.proofs.Common.{refl, ap}
use Rattle.std.proofs.lemmas.Bool.{and_parts, eqb-true, false≢true}
use Rattle.fws_num.specs.declared.prefix.Prefix.{Prefix}
use Rattle.fws_iv.specs.declared.iv.Iv.{Iv}
use Rattle.fws_ios_put_entries.specs.declared.path.Path.{Path}

pub option_exact : {X : Type 0} (eq : X → X → Bool) → ((x y : X) → eq x y ≡ true → x ≡ y) → (o p : Option X) → option_eq eq o p ≡ true → o ≡ p
option_exact eq exact None None h = refl
option_exact eq exact None (Some y) h = absurd (false≢true h)
option_exact eq exact (Some x) None h = absurd (false≢true h)
option_exact eq exact (Some x) (Some y) h = ap Some (exact x y h)

pub prefix_exact : (x y : Prefix) → (nat_eq x.addr y.addr && nat_eq x.len y.len) ≡ true → x ≡ y
prefix_exact x y h =
    let both = and_parts (nat_eq x.addr y.addr) (nat_eq x.len y.len) h in
    let addr = eqb-true x.addr y.addr both.0 in
    let len = eqb-true x.len y.len both.1 in
    λ i. record { addr = addr i; len = len i }

pub iv_exact : (x y : Iv) → (nat_eq x.lo y.lo && nat_eq x.hi y.hi) ≡ true → x ≡ y
iv_exact x y h =
    let both = and_parts (nat_eq x.lo y.lo) (nat_eq x.hi y.hi) h in
    let lo = eqb-true x.lo y.lo both.0 in
    let hi = eqb-true x.hi y.hi both.1 in
    λ i. record { lo = lo i; hi = hi i }

pub path_exact : (net_eq : Prefix → Prefix → Bool) → ((x y : Prefix) → net_eq x y ≡ true → x ≡ y) → (range_eq : Iv → Iv → Bool)
    → ((x y : Iv) → range_eq x y ≡ true → x ≡ y) → (x y : Path)
    → (option_eq nat_eq x.proto y.proto && (option_eq net_eq x.src y.src && (option_eq range_eq x.sport y.sport && (option_eq net_eq x.dst y.dst
    && (option_eq range_eq x.dport y.dport && option_eq nat_eq x.icmp y.icmp))))) ≡ true → x ≡ y
path_exact net_eq net_same range_eq range_same x y h =
    let a = and_parts (option_eq nat_eq x.proto y.proto) (option_eq net_eq x.src y.src && (option_eq range_eq x.sport y.sport && (option_eq net_eq x.dst y.dst && (option_eq range_eq x.dport y.dport && option_eq nat_eq x.icmp y.icmp)))) h in
    let b = and_parts (option_eq net_eq x.src y.src) (option_eq range_eq x.sport y.sport && (option_eq net_eq x.dst y.dst && (option_eq range_eq x.dport y.dport && option_eq nat_eq x.icmp y.icmp))) a.1 in
    let c = and_parts (option_eq range_eq x.sport y.sport) (option_eq net_eq x.dst y.dst && (option_eq range_eq x.dport y.dport && option_eq nat_eq x.icmp y.icmp)) b.1 in
    let d = and_parts (option_eq net_eq x.dst y.dst) (option_eq range_eq x.dport y.dport && option_eq nat_eq x.icmp y.icmp) c.1 in
    let e = and_parts (option_eq range_eq x.dport y.dport) (option_eq nat_eq x.icmp y.icmp) d.1 in
    let proto = option_exact nat_eq eqb-true x.proto y.proto a.0 in
    let src = option_exact net_eq net_same x.src y.src b.0 in
    let sport = option_exact range_eq range_same x.sport y.sport c.0 in
    let dst = option_exact net_eq net_same x.dst y.dst d.0 in
    let dport = option_exact range_eq range_same x.dport y.dport e.0 in
    let icmp = option_exact nat_eq eqb-true x.icmp y.icmp e.1 in
    λ i. record { proto = proto i; src = src i; sport = sport i; dst = dst i; dport = dport i; icmp = icmp i }

-- the value was put behind the others unless it was there
abbrev pub IsPut : {X : Type 0} → List X → List X → X → Type 0
IsPut old new x = ((new ≡ old) × Contains old x) ⊎ (new ≡ old ++ x ∷ [])
