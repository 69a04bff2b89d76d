-- What stands beside an answer of find and list: a name and a date, or zeros where there are none.
use Rattle.std.specs.Prelude.{Bool, replicate}
use Rattle.volume.specs.Bytes.{Bytes}
use Rattle.model.specs.Call.{Kind, is_file, is_directory, Found, Listed, empty, holds, Answer, refused, granted}

-- beside a refusal zeros
unfoldable pub find_date : Answer Found → Bytes
find_date (refused m) = replicate 8 0
find_date (granted found) = found.date

-- beside an empty entry and a refusal zeros
unfoldable pub list_name : Answer Listed → Bytes
list_name (refused m) = replicate 16 0
list_name (granted empty) = replicate 16 0
list_name (granted (holds kind name size date)) = name

unfoldable pub list_date : Answer Listed → Bytes
list_date (refused m) = replicate 8 0
list_date (granted empty) = replicate 8 0
list_date (granted (holds kind name size date)) = date

-- a value by the kind: x of a file, by its lock, or y of a directory
unfoldable pub kind_of : {A : Type 0} → (Bool → A) → A → Kind → A
kind_of x y (is_file locked) = x locked
kind_of x y is_directory = y
