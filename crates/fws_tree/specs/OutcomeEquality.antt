-- What `==` holds equal is equal: the ends that a rule writes, and a rewriting.
use Rattle.std.specs.Prelude.{◌≡◌, Bool, true, ◌&&◌, nat_eq, refl}
use Rattle.std.specs.Option.{option_eq}
use Rattle.std.proofs.lemmas.Bool.{and_parts, eqb-true}
use Rattle.fws_net.specs.declared.outcome.End.{End}
use Rattle.fws_net.specs.declared.outcome.Rewrite.{Rewrite}
use Rattle.fws_net.specs.contracts.outcome.End.{the_row}
use Rattle.fws_tree.specs.LeafEquality.{option_exact}

-- ends are equal if their plain parts are
pub end_same : (x y : End) → x.addr ≡ y.addr → x.len ≡ y.len → x.port ≡ y.port → x ≡ y
end_same x y a b c = (the_row).coded.inj x y (rw (a, b, c) refl)

pub end_exact : (x y : End) → (nat_eq x.addr y.addr && (nat_eq x.len y.len && option_eq nat_eq x.port y.port)) ≡ true → x ≡ y
end_exact x y h =
    let a = and_parts (nat_eq x.addr y.addr) (nat_eq x.len y.len && option_eq nat_eq x.port y.port) h in
    let b = and_parts (nat_eq x.len y.len) (option_eq nat_eq x.port y.port) a.1 in
    end_same x y (eqb-true x.addr y.addr a.0) (eqb-true x.len y.len b.0) (option_exact nat_eq eqb-true x.port y.port b.1)

pub rewrite_exact : (eq : End → End → Bool) → ((x y : End) → eq x y ≡ true → x ≡ y) → (v w : Rewrite) → (option_eq eq v.src w.src && option_eq eq v.dst w.dst) ≡ true → v ≡ w
rewrite_exact eq exact v w h =
    let a = and_parts (option_eq eq v.src w.src) (option_eq eq v.dst w.dst) h in
    λ i. record { src = option_exact eq exact v.src w.src a.0 i; dst = option_exact eq exact v.dst w.dst a.1 i }
