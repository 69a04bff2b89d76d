-- Document 01, "What the delivery holds" and "The plain tree": the calls with their arguments, and what each answers.
use Rattle.std.specs.Prelude.{ℕ, Bool, []}
use Rattle.volume.specs.Bytes.{Bytes}

-- The two calls of paper 02 §10 are one here, by the mark that they leave. A path, a date and what a write writes are bytes. The last argument of a read, and of a store, is what
-- the buffer holds beforehand. A store (paper 02 §11) makes a file with its content by whole pages, and is asked for each of them by its number.
-- F is what a version's format is handed: nothing in version 1, a page code in version 2. S says whether a version has stores: version 1 has, version 2
-- has not (paper 02 §12), and its S is empty.
pub data CallOf (F S : Type 0) : Type 0 where
  format_as : (new : F) → CallOf F S
  verdict : CallOf F S
  find : (path : Bytes) → CallOf F S
  list : (path : Bytes) (entry : ℕ) → CallOf F S
  read : (path : Bytes) (position : ℕ) (buffer : Bytes) → CallOf F S
  make_file : (path date : Bytes) → CallOf F S
  make_directory : (path date : Bytes) → CallOf F S
  write : (path : Bytes) (position : ℕ) (bytes : Bytes) → CallOf F S
  remove_file : (path : Bytes) → CallOf F S
  remove_directory : (path : Bytes) → CallOf F S
  set_lock : (locked : Bool) (path : Bytes) → CallOf F S
  store_as : (has : S) (path date content : Bytes) (number : ℕ) (buffer : Bytes) → CallOf F S

-- version 1's
abbrev pub Call : Type 0
Call = CallOf (Unit {0}) (Unit {0})

abbrev pub format : Call
format = format_as tt

abbrev pub store : (path date content : Bytes) (number : ℕ) (buffer : Bytes) → Call
store path date content number buffer = store_as tt path date content number buffer

-- what is said of a store, and of every other call
abbrev pub of_store : {F S : Type 0} (A : CallOf F S → Type 0) → (c : CallOf F S) → A c
    → ((has : S) (path date content : Bytes) (number : ℕ) (buffer : Bytes) → A (store_as has path date content number buffer)) → A c
of_store A (format_as new) x f = x
of_store A verdict x f = x
of_store A (find path) x f = x
of_store A (list path entry) x f = x
of_store A (read path position buffer) x f = x
of_store A (make_file path date) x f = x
of_store A (make_directory path date) x f = x
of_store A (write path position bytes) x f = x
of_store A (remove_file path) x f = x
of_store A (remove_directory path) x f = x
of_store A (set_lock locked path) x f = x
of_store A (store_as has path date content number buffer) x f = f has path date content number buffer

-- and of a format
abbrev pub of_format : {F S : Type 0} {A : Type 0} → CallOf F S → A → (F → A) → A
of_format (format_as new) x f = f new
of_format verdict x f = x
of_format (find path) x f = x
of_format (list path entry) x f = x
of_format (read path position buffer) x f = x
of_format (make_file path date) x f = x
of_format (make_directory path date) x f = x
of_format (write path position bytes) x f = x
of_format (remove_file path) x f = x
of_format (remove_directory path) x f = x
of_format (set_lock locked path) x f = x
of_format (store_as has path date content number buffer) x f = x

-- ---- what a granted call tells

pub data Kind : Type 0 where
  is_file : (locked : Bool) → Kind
  is_directory : Kind

-- N and the free number
pub record Verdict : Type 0 where
  pub pages : ℕ
  pub free : ℕ

pub record Found : Type 0 where
  pub kind : Kind
  pub size : ℕ
  pub date : Bytes

pub data Listed : Type 0 where
  empty : Listed
  holds : (kind : Kind) (name : Bytes) (size : ℕ) (date : Bytes) → Listed

-- read tells how many bytes it copied, a store its page; the calls that change an image tell only that they were done
abbrev pub Told : {F S : Type 0} → CallOf F S → Type 0
Told (format_as new) = Unit {0}
Told verdict = Verdict
Told (find path) = Found
Told (list path entry) = Listed
Told (read path position buffer) = ℕ
Told (make_file path date) = Unit {0}
Told (make_directory path date) = Unit {0}
Told (write path position bytes) = Unit {0}
Told (remove_file path) = Unit {0}
Told (remove_directory path) = Unit {0}
Told (set_lock locked path) = Unit {0}
Told (store_as has path date content number buffer) = ℕ

-- the lent buffer before the call; only a read and a store have one
abbrev pub buffer_before : {F S : Type 0} → CallOf F S → Bytes
buffer_before (format_as new) = []
buffer_before verdict = []
buffer_before (find path) = []
buffer_before (list path entry) = []
buffer_before (read path position room) = room
buffer_before (make_file path date) = []
buffer_before (make_directory path date) = []
buffer_before (write path position bytes) = []
buffer_before (remove_file path) = []
buffer_before (remove_directory path) = []
buffer_before (set_lock locked path) = []
buffer_before (store_as has path date content number buffer) = buffer

-- ---- answers

-- Number and place of a refusal. The place is up to three numbers, 0 where there is nothing to point at: for 5 and 6 the byte of the path
-- at which the name begins that isn't there, or that is a file's; for 16 to 20 where the image is unsound (paper 02 §2).
pub record Refusal : Type 0 where
  pub number : ℕ
  pub place : ℕ × ℕ × ℕ

abbrev pub refusal : ℕ → Refusal
refusal n = record { number = n; place = (0, 0, 0) }

abbrev pub refusal_at : (number first : ℕ) → Refusal
refusal_at n i = record { number = n; place = (i, 0, 0) }

pub data Answer (A : Type 0) : Type 0 where
  refused : Refusal → Answer A
  granted : A → Answer A
