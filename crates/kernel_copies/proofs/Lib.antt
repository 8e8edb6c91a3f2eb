mod Identical
