-- The tests of spans say what document 01 says of their addresses.
-- Assumes nothing.
use mathlib.Core.Path.{◌≡◌, refl}
use mathlib.Core.Bool.{true, false}
use Prim.Native.Nat.{ℕ, pred, ◌<◌, ◌≤◌, min, max}
use native.Mathlib.Omega.{arith}
use lib.Dec.{leb}
use borrow.Author.Tests.{leb-true, le-leb, ltb-true, lt-ltb, le-ltb}
use Rattle.model.specs.declared.Span.{Span}
use Rattle.model.specs.Values.{end, touches, inside}
use Rattle.model.proofs.Lists.{and_both}

-- a is an address of the span
abbrev pub In : ℕ → Span → Type 0
In a s = (s.start.0 ≤ a) × (a < end s)

-- Two spans touch when they share an address.
pub touching : (s t : Span) (a : ℕ) → In a s → In a t → touches s t ≡ true
touching s t a h k = lt-ltb (max s.start.0 t.start.0) (min (end s) (end t)) (omega arith)

pub shared : (s t : Span) → touches s t ≡ true → (a : ℕ) × (In a s × In a t)
shared s t h =
    let l = ltb-true (max s.start.0 t.start.0) (min (end s) (end t)) h in
    (max s.start.0 t.start.0, omega arith)

-- A span of length 0 has no address to share.
pub touches_none : (s t : Span) → s.length ≡ 0 → touches s t ≡ false
touches_none s t z = le-ltb (max s.start.0 t.start.0) (min (end s) (end t)) (omega arith)

-- A span lies inside another when each of its addresses is one of the other's, if it has any.
pub inside_each : (s t : Span) → inside s t ≡ true → (a : ℕ) → In a s → In a t
inside_each s t h a k =
    let p = and_both (leb t.start.0 s.start.0) (leb (end s) (end t)) h in
    omega (arith, leb-true t.start.0 s.start.0 p.0, leb-true (end s) (end t) p.1)

pub each_inside : (s t : Span) → 1 ≤ s.length → ((a : ℕ) → In a s → In a t) → inside s t ≡ true
each_inside s t l f = rw (le-leb t.start.0 s.start.0 (f s.start.0 (omega arith)).0, le-leb (end s) (end t) last)
  where
    last : end s ≤ end t
    last = omega (arith, (f (pred (end s)) (omega arith)).1)

-- ---- spans of length 0

-- Card 2: "It lies inside another when its start is at or between the other's start and end."
pub record Between (s t : Span) : Type 0 where
  pub from_start : t.start.0 ≤ s.start.0
  pub to_end : s.start.0 ≤ end t

module _ (s t : Span) (z : s.length ≡ 0) where
  pub inside_between : inside s t ≡ true → Between s t
  inside_between h =
      let p = and_both (leb t.start.0 s.start.0) (leb (end s) (end t)) h in
      let l = leb-true (end s) (end t) p.1 in
      record { from_start = leb-true t.start.0 s.start.0 p.0; to_end = omega arith }

  pub between_inside : Between s t → inside s t ≡ true
  between_inside b = rw (le-leb t.start.0 s.start.0 b.from_start, le-leb (end s) (end t) (omega (arith, b.to_end)))

-- Inside a span of length 0 lies only one of length 0 with the same start.
pub inside_empty : (s t : Span) → t.length ≡ 0 → inside s t ≡ true → (s.length ≡ 0) × (s.start.0 ≡ t.start.0)
inside_empty s t z h =
    let p = and_both (leb t.start.0 s.start.0) (leb (end s) (end t)) h in
    let first = leb-true t.start.0 s.start.0 p.0 in
    let last = leb-true (end s) (end t) p.1 in
    (omega arith, omega arith)

pub empty_inside : (s t : Span) → t.length ≡ 0 → s.length ≡ 0 → s.start.0 ≡ t.start.0 → inside s t ≡ true
empty_inside s t z y e = between_inside s t y (record { from_start = omega arith; to_end = omega arith })

-- ---- at the edges

abbrev from : ℕ → ℕ → Span
from start length = record { start = record { 0 = start }; length = length }

-- Spans whose ends meet share no address; one address more, and they do.
pub ends_meet : (touches (from 0 8) (from 8 8) ≡ false)
    × (touches (from 8 8) (from 0 8) ≡ false)
    × (touches (from 0 9) (from 8 8) ≡ true)
    × (touches (from 7 8) (from 0 8) ≡ true)
ends_meet = (refl, refl, refl, refl)

-- A span lies inside itself, and not where it goes one address over either end.
pub inside_edges : (inside (from 4 8) (from 4 8) ≡ true)
    × (inside (from 3 8) (from 4 8) ≡ false)
    × (inside (from 5 8) (from 4 8) ≡ false)
    × (inside (from 4 9) (from 4 8) ≡ false)
inside_edges = (refl, refl, refl, refl)

-- One of length 0 lies inside from the start up to the end and no further, and touches nothing, itself neither.
pub empty_inside_edges : (inside (from 8 0) (from 0 8) ≡ true)
    × (inside (from 9 0) (from 0 8) ≡ false)
    × (inside (from 8 0) (from 8 8) ≡ true)
    × (inside (from 7 0) (from 8 8) ≡ false)
empty_inside_edges = (refl, refl, refl, refl)

pub empty_touches : (touches (from 8 0) (from 0 8) ≡ false)
    × (touches (from 4 0) (from 0 8) ≡ false)
    × (touches (from 0 8) (from 4 0) ≡ false)
    × (touches (from 4 0) (from 4 0) ≡ false)
empty_touches = (refl, refl, refl, refl)
