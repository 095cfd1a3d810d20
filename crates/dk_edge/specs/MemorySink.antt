-- A sink into memory.
use Rattle.std.specs.Prelude.{◌≡◌, ℕ, ◌+◌, ◌<◌, ◌≤◌, min, List, length, take, ◌++◌}
use Rattle.dk_types.specs.FaultPlan.{Plan, after_call, after_fault}

-- the bytes that were put, how many of its bytes a failing call still appends, the bytes for which there is room, and the calls that fail
pub record Basin : Type 0 where
  pub contents : List ℕ
  pub torn : ℕ
  pub room : ℕ
  pub plan : Plan

-- the first n of these bytes were appended, and took no more than their own room
pub record Grows (old new : Basin) (bytes : List ℕ) (n : ℕ) : Type 0 where
  pub contents : new.contents ≡ old.contents ++ take n bytes
  pub torn : new.torn ≡ old.torn
  pub room : old.room ≤ new.room + n

-- a call that did what it was to do
pub record IsPut (old new : Basin) (bytes : List ℕ) : Type 0 where
  pub grows : Grows old new bytes (length bytes)
  pub plan : new.plan ≡ after_call old.plan

-- a call that was to fail: a part of its bytes was appended, where there is room for it
pub record IsTorn (old new : Basin) (bytes : List ℕ) (n : ℕ) : Type 0 where
  pub most : n ≤ min old.torn (length bytes)
  pub part : min old.torn (length bytes) ≤ old.room → n ≡ min old.torn (length bytes)
  pub grows : Grows old new bytes n
  pub plan : new.plan ≡ after_call old.plan

-- a call for whose bytes there was no room
pub record IsRefused (old new : Basin) (bytes : List ℕ) : Type 0 where
  pub full : old.room < length bytes
  pub grows : Grows old new bytes 0
  pub plan : new.plan ≡ after_fault (after_call old.plan)
