-- Card 13, "trying table sizes": how the code knows the clients' names. Of those that were given it keeps a list, in which all are that live:
-- each name, and beside it a key that says which client calls it what. Those that have ended stay in the list until it is full.
-- Assumes nothing.
use Rattle.std.specs.Prelude.{ℕ, suc, ◌+◌, ◌*◌, ◌<◌, ◌≤◌, ◌≡◌, Bool, true, false, cond, ◌&&◌, List, eqb, ltb, leb, length, get_or, set}
use Rattle.model.specs.declared.Cap.{Cap}
use Rattle.model.specs.declared.Event.{Event}
use Rattle.model.specs.declared.Event.TheVariants.{Create, Borrow, Read, Write, Drop}
use Rattle.table.specs.Rows.{name_at}
use Rattle.sizes.specs.Clients.{known}

-- ---- the name that an event uses

-- 0 for a create, which uses none
abbrev pub name_in : Event → ℕ
name_in (Create w s r) = 0
name_in (Borrow w u s r) = u.0
name_in (Read u s) = u.0
name_in (Write u s) = u.0
name_in (Drop u) = u.0

-- the same event with another name
abbrev pub renamed : ℕ → Event → Event
renamed x (Create w s r) = Create w s r
renamed x (Borrow w u s r) = Borrow w (record { 0 = x }) s r
renamed x (Read u s) = Read (record { 0 = x }) s
renamed x (Write u s) = Write (record { 0 = x }) s
renamed x (Drop u) = Drop (record { 0 = x })

-- ---- what was given

-- names were given once, and are issued
pub record Given (given : ℕ → List ℕ) (issued : ℕ) : Type 0 where
  pub positive : (c a : ℕ) → a < length (given c) → 0 < get_or (given c) a 0
  pub most : (c a : ℕ) → get_or (given c) a 0 ≤ issued
  pub few : (c : ℕ) → length (given c) ≤ issued
  pub once : (c d a b : ℕ) → a < length (given c) → b < length (given d) → get_or (given c) a 0 ≡ get_or (given d) b 0 → (c ≡ d) × (a ≡ b)

-- how many each of the 8 clients was given
pub record Counted (given : ℕ → List ℕ) (counts : List ℕ) : Type 0 where
  pub all_clients : length counts ≡ 8
  pub each : (k : ℕ) → k < 8 → length (given (suc k)) ≡ get_or counts k 0

-- a client that was given so many was given one that it calls so
abbrev pub is_given : ℕ → ℕ → Bool
is_given count local = ltb 0 local && leb local count

-- ---- the list

-- the key of what a client calls so: no client is given more than 1,000,000
abbrev pub key_of : ℕ → ℕ → ℕ
key_of client local = client * 1048576 + local

-- x is one of the names of the list, of which so many are used
pub record Among (names : List ℕ) (used x : ℕ) : Type 0 where
  pub place : ℕ
  pub inside : place < used
  pub is : get_or names place 0 ≡ x

-- so many names are in the list, in rising order; all are there that live
pub record Listed (T : List Cap) (live : ℕ) (names : List ℕ) (used : ℕ) : Type 0 where
  pub fits : used ≤ 2048
  pub room : length names ≡ 2048
  pub rising : (i j : ℕ) → i < j → j < used → get_or names i 0 < get_or names j 0
  pub living : (j : ℕ) → j < live → Among names used (name_at T j)

-- the key beside a name says whose it is
pub record Keyed (given : ℕ → List ℕ) (name key : ℕ) : Type 0 where
  pub client : ℕ
  pub local : ℕ
  pub low : local < 1048576
  pub some : 0 < name
  pub key_is : key ≡ key_of client local
  pub name_is : known (given client) local ≡ name

pub record Keys (given : ℕ → List ℕ) (names keys : List ℕ) (used : ℕ) : Type 0 where
  pub room : length keys ≡ 2048
  pub each : (i : ℕ) → i < used → Keyed given (get_or names i 0) (get_or keys i 0)

-- ---- a key is looked for

-- r is the place of a key, or is not below used where it has none
pub record KeyFound (used : ℕ) (keys : List ℕ) (key r : ℕ) : Type 0 where
  pub fits : r ≤ used
  pub here : r < used → get_or keys r 0 ≡ key
  pub none : used ≤ r → (i : ℕ) → i < used → get_or keys i 0 ≡ key → ⊥

-- r is the name beside a key, or 0 where the list has no such key
pub record Beside (used : ℕ) (names keys : List ℕ) (key r : ℕ) : Type 0 where
  pub place : ℕ
  pub found : KeyFound used keys key place
  pub is : r ≡ cond (ltb place used) (get_or names place 0) 0

-- r is the name that a client means which calls it so, or 0 where it was given none, or none that lives
pub record Meant (used : ℕ) (names keys : List ℕ) (client count local r : ℕ) : Type 0 where
  pub unknown : is_given count local ≡ false → r ≡ 0
  pub looked : is_given count local ≡ true → Beside used names keys (key_of client local) r

-- ---- where the list is full

-- an entry of the old list
pub record From (names keys : List ℕ) (used name key : ℕ) : Type 0 where
  pub place : ℕ
  pub inside : place < used
  pub name_is : get_or names place 0 ≡ name
  pub key_is : get_or keys place 0 ≡ key

-- a list of r entries, all of the old one, with all names that live
pub record Kept (T : List Cap) (live : ℕ) (names keys : List ℕ) (used : ℕ) (names' keys' : List ℕ) (r : ℕ) : Type 0 where
  pub listed : Listed T live names' r
  pub long : length keys' ≡ 2048
  pub old : (i : ℕ) → i < r → From names keys used (get_or names' i 0) (get_or keys' i 0)

-- ---- a new name

-- it is put behind the others; 0 is none
abbrev pub names_with : ℕ → List ℕ → ℕ → List ℕ
names_with new names used = cond (eqb new 0) names (set names used new)

abbrev pub keys_with : ℕ → List ℕ → ℕ → ℕ → ℕ → List ℕ
keys_with new keys used client count = cond (eqb new 0) keys (set keys used (key_of client (count + 1)))

abbrev pub counts_with : ℕ → List ℕ → ℕ → List ℕ
counts_with new counts client = cond (eqb new 0) counts (set counts client (get_or counts client 0 + 1))

abbrev pub used_with : ℕ → ℕ → ℕ
used_with new used = cond (eqb new 0) used (used + 1)

-- ---- an ended name

-- it was given, though the name that is meant is 0
abbrev pub has_ended : ℕ → ℕ → ℕ → Bool
has_ended name count local = eqb name 0 && is_given count local

-- a refusal where the name is called 0, and where it is one that has ended
abbrev pub ended_for : ℕ → ℕ
ended_for q = cond (eqb q 4) 5 q
