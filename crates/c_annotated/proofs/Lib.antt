mod Nulls
