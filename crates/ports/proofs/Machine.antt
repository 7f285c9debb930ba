-- Open streams after a change of one of them. Assumes nothing.
use Rattle.std.specs.Prelude.{Option, None, Some}
use mathlib.Core.Path.{◌≡◌, refl, sym, ap, ◌∙◌}
use mathlib.Core.Bool.{Bool, true, false, ◌&&◌}
use mathlib.Core.List.{List, [], ◌∷◌}
use Prim.Native.Nat.{ℕ, ◌+◌, ◌≤◌}
use native.Mathlib.Omega.{arith}
use lib.ListN.{length}
use Rattle.ump.proofs.First.{never}
use Rattle.ports.specs.Streams.{key_of, is_of, Streams, stream_of, is_open, own, share_of, without, put}
use Rattle.ports.specs.Interleaved.{Distinct}
use Rattle.ports.proofs.Slots.{Same, alike, unlike, same, bit}

-- a key tells its port, group and stream id
pub key_once : (port group id port' group' id' : ℕ) → group ≤ 15 → id ≤ 255 → group' ≤ 15 → id' ≤ 255 → key_of port group id ≡ key_of port' group' id'
    → (port ≡ port') × (group ≡ group') × (id ≡ id')
key_once port group id port' group' id' a b c d e = (omega (arith, e), omega (arith, e), omega (arith, e))

pub some_none : {A : Type 0} {words : List ℕ} → Some words ≡ None → A
some_none e = never (sym (ap is_open e))

-- ---- the stream of a key

find_without_same : (streams : Streams) (key : ℕ) → stream_of (without streams key) key ≡ None
find_without_same [] key = refl
find_without_same (s ∷ streams) key = go (same s.key key) (find_without_same streams key)
  where
    go : Same s.key key → stream_of (without streams key) key ≡ None → stream_of (without (s ∷ streams) key) key ≡ None
    go (alike p e) more = rw e more
    go (unlike p e) more = rw (e, e) more

find_without_other : (streams : Streams) (key other : ℕ) → (other ≡ key → ⊥) → stream_of (without streams key) other ≡ stream_of streams other
find_without_other [] key other n = refl
find_without_other (s ∷ streams) key other n = go (same s.key key) (same s.key other) (find_without_other streams key other n)
  where
    go : Same s.key key → Same s.key other → stream_of (without streams key) other ≡ stream_of streams other → stream_of (without (s ∷ streams) key) other ≡ stream_of (s ∷ streams) other
    go (alike p e) (alike q f) more = absurd (n (sym q ∙ p))
    go (alike p e) (unlike q f) more = rw (e, f) more
    go (unlike p e) (alike q f) more = rw (e, f)
    go (unlike p e) (unlike q f) more = rw (e, f) more

pub find_put_same : (streams : Streams) (key : ℕ) (new : Option (List ℕ)) → stream_of (put streams key new) key ≡ new
find_put_same streams key None = find_without_same streams key
find_put_same streams key (Some words) = go (same key key)
  where
    go : Same key key → stream_of (put streams key (Some words)) key ≡ Some words
    go (alike p e) = rw e
    go (unlike p e) = absurd (p refl)

pub find_put_other : (streams : Streams) (key other : ℕ) (new : Option (List ℕ)) → (other ≡ key → ⊥) → stream_of (put streams key new) other ≡ stream_of streams other
find_put_other streams key other None n = find_without_other streams key other n
find_put_other streams key other (Some words) n = go (same key other)
  where
    go : Same key other → stream_of (put streams key (Some words)) other ≡ stream_of streams other
    go (alike p e) = absurd (n (sym p))
    go (unlike p e) = rw e (find_without_other streams key other n)

-- ---- distinct keys, and how many streams there are

distinct_without : (streams : Streams) (key : ℕ) → Distinct streams → Distinct (without streams key)
distinct_without [] key d = d
distinct_without (s ∷ streams) key d = go (same s.key key) (distinct_without streams key d.1)
  where
    go : Same s.key key → Distinct (without streams key) → Distinct (without (s ∷ streams) key)
    go (alike p e) more = rw e more
    go (unlike p e) more = rw e (find_without_other streams key s.key p ∙ d.0, more)

pub distinct_put : (streams : Streams) (key : ℕ) (new : Option (List ℕ)) → Distinct streams → Distinct (put streams key new)
distinct_put streams key None d = distinct_without streams key d
distinct_put streams key (Some words) d = (find_without_same streams key, distinct_without streams key d)

-- where the key is not there, nothing is closed
without-none : (streams : Streams) (key : ℕ) → stream_of streams key ≡ None → without streams key ≡ streams
without-none [] key e = refl
without-none (s ∷ streams) key e = go (same s.key key) e (without-none streams key)
  where
    go : Same s.key key → stream_of (s ∷ streams) key ≡ None → (stream_of streams key ≡ None → without streams key ≡ streams) → without (s ∷ streams) key ≡ s ∷ streams
    go (alike p t) f more = some_none (rw t at f)
    go (unlike p t) f more = rw (t, more (rw t at f))

length_without : (streams : Streams) (key : ℕ) → Distinct streams → length (without streams key) + bit (is_open (stream_of streams key)) ≡ length streams
length_without [] key d = refl
length_without (s ∷ streams) key d = go (same s.key key) (length_without streams key d.1)
  where
    go : Same s.key key → length (without streams key) + bit (is_open (stream_of streams key)) ≡ length streams
        → length (without (s ∷ streams) key) + bit (is_open (stream_of (s ∷ streams) key)) ≡ length (s ∷ streams)
    go (alike p t) more = rw (t, without-none streams key (ap (stream_of streams) (sym p) ∙ d.0)) (omega arith)
    go (unlike p t) more = rw t (omega arith)

pub length_put : (streams : Streams) (key : ℕ) (new : Option (List ℕ)) → Distinct streams
    → length (put streams key new) + bit (is_open (stream_of streams key)) ≡ length streams + bit (is_open new)
length_put streams key None d = omega (arith, length_without streams key d)
length_put streams key (Some words) d = omega (arith, length_without streams key d)

-- ---- the streams of one port

module _ (port : ℕ) where
  pub find-own : (streams : Streams) (key : ℕ) → is_of port key ≡ true → stream_of (own port streams) key ≡ stream_of streams key
  find-own [] key h = refl
  find-own (s ∷ streams) key h = go (is_of port s.key) refl (same s.key key) (find-own streams key h)
    where
      go : (b : Bool) → is_of port s.key ≡ b → Same s.key key → stream_of (own port streams) key ≡ stream_of streams key → stream_of (own port (s ∷ streams)) key ≡ stream_of (s ∷ streams) key
      go true e (alike p t) more = rw (e, t)
      go true e (unlike p t) more = rw (e, t) more
      go false e (alike p t) more = never (sym e ∙ ap (is_of port) p ∙ h)
      go false e (unlike p t) more = rw (e, t) more

  find_own_none : (streams : Streams) (key : ℕ) → stream_of streams key ≡ None → stream_of (own port streams) key ≡ None
  find_own_none [] key h = refl
  find_own_none (s ∷ streams) key h = go (is_of port s.key) refl (same s.key key) h (find_own_none streams key)
    where
      go : (b : Bool) → is_of port s.key ≡ b → Same s.key key → stream_of (s ∷ streams) key ≡ None → (stream_of streams key ≡ None → stream_of (own port streams) key ≡ None)
          → stream_of (own port (s ∷ streams)) key ≡ None
      go b e (alike p t) f more = some_none (rw t at f)
      go true e (unlike p t) f more = rw (e, t) (more (rw t at f))
      go false e (unlike p t) f more = rw e (more (rw t at f))

  distinct_own : (streams : Streams) → Distinct streams → Distinct (own port streams)
  distinct_own [] d = d
  distinct_own (s ∷ streams) d = go (is_of port s.key) refl (distinct_own streams d.1)
    where
      go : (b : Bool) → is_of port s.key ≡ b → Distinct (own port streams) → Distinct (own port (s ∷ streams))
      go true e more = rw e (find_own_none streams s.key d.0, more)
      go false e more = rw e more

  own-without : (streams : Streams) (key : ℕ) → own port (without streams key) ≡ without (own port streams) key
  own-without [] key = refl
  own-without (s ∷ streams) key = go (is_of port s.key) refl (same s.key key) (own-without streams key)
    where
      go : (b : Bool) → is_of port s.key ≡ b → Same s.key key → own port (without streams key) ≡ without (own port streams) key
          → own port (without (s ∷ streams) key) ≡ without (own port (s ∷ streams)) key
      go true e (alike p t) more = rw (t, e, t) more
      go true e (unlike p t) more = rw (t, e, t, more)
      go false e (alike p t) more = rw (t, e) more
      go false e (unlike p t) more = rw (t, e) more

  own_without_other : (streams : Streams) (key : ℕ) → is_of port key ≡ false → own port (without streams key) ≡ own port streams
  own_without_other [] key h = refl
  own_without_other (s ∷ streams) key h = go (is_of port s.key) refl (same s.key key) (own_without_other streams key h)
    where
      go : (b : Bool) → is_of port s.key ≡ b → Same s.key key → own port (without streams key) ≡ own port streams
          → own port (without (s ∷ streams) key) ≡ own port (s ∷ streams)
      go true e (alike p t) more = never (sym (ap (is_of port) p ∙ h) ∙ e)
      go true e (unlike p t) more = rw (t, e, more)
      go false e (alike p t) more = rw (t, e) more
      go false e (unlike p t) more = rw (t, e) more

  -- a stream of this port, and of another
  pub own_put : (streams : Streams) (key : ℕ) (new : Option (List ℕ)) → is_of port key ≡ true → own port (put streams key new) ≡ put (own port streams) key new
  own_put streams key None h = own-without streams key
  own_put streams key (Some words) h = rw (h, own-without streams key)

  pub own_put_other : (streams : Streams) (key : ℕ) (new : Option (List ℕ)) → is_of port key ≡ false → own port (put streams key new) ≡ own port streams
  own_put_other streams key None h = own_without_other streams key h
  own_put_other streams key (Some words) h = rw h (own_without_other streams key h)

  -- how many the port holds
  pub held_put : (streams : Streams) (key : ℕ) (new : Option (List ℕ)) → Distinct streams
      → share_of (put streams key new) port + bit (is_of port key && is_open (stream_of streams key)) ≡ share_of streams port + bit (is_of port key && is_open new)
  held_put streams key new d = go (is_of port key) refl
    where
      go : (b : Bool) → is_of port key ≡ b → share_of (put streams key new) port + bit (b && is_open (stream_of streams key)) ≡ share_of streams port + bit (b && is_open new)
      go true e = rw (own_put streams key new e, ← (find-own streams key e)) (length_put (own port streams) key new (distinct_own streams d))
      go false e = rw (own_put_other streams key new e)
